use Rattle.std.proofs.Common.{◌≡◌, ℕ, true, cond, [], Some, sym, ap, ◌∙◌, rules}
use Rattle.crew.specs.Foreman as F
use Rattle.crew.specs.Job.{all_below}
use Rattle.crew.specs.Messages.{to_all}
use Rattle.crew.specs.Outcomes.{Taken}
use Rattle.crew.specs.Paced.{again, foreman_of}
use Rattle.crew.proofs.foreman.Foreman.count.Goals as goal

pub returns-then-has_all : goal.returns-then-has_all
returns-then-has_all c =
    let m : ℕ = c.args.self.workers in
    let f : F.Foreman = F.with_ready (foreman_of c.args.self) c.args.line.0 c.args.over in
    let all : all_below m f.ready ≡ true = ap (all_below m) (sym (λ i k. c.with-self.ensures k i)) ∙ sym c.has_all.ensures ∙ c.if-has_all.true in
    let next : foreman_of c.advanced.result ≡ F.advanced f = c.advanced.ensures.is in
    let on : F.Reply = record { state = Some (F.advanced f); appends = []; says = to_all m (F.saying (F.advanced f)); outcome = Taken } in
    let is : again m (foreman_of c.advanced.result) Taken ≡ F.counted m f = (λ i. again m (next i) Taken) ∙ sym (ap (λ b. cond b on (F.unmoved f Taken)) all) in
    rw (sym is) (search rules)
