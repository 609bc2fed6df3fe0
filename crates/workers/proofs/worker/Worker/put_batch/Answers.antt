use Rattle.std.proofs.Common.{◌≡◌, ℕ, cond, eqb, List, ◌++◌, Some, vec_items, Option, ap, ◌∙◌}
use Rattle.meaning.specs.Meaning.{Letter}
use Rattle.meaning.specs.Packets.{letters_of}
use Rattle.crew.specs.Stored.{parcels_of, records_of}
use Rattle.crew.specs.Worker.{says_ready}
use Rattle.workers.specs.Crewed.{job_in, worker_of}
use Rattle.workers.specs.Holding.{got_of}
use Rattle.workers.proofs.Changing.{with_got}
use Rattle.workers.proofs.worker.Worker.put_batch.Goals as goal

pub returns-clause-replied : goal.returns-clause-replied
returns-clause-replied c =
    let s = c.args.self.now in
    let w = worker_of s in
    let j = c.args.line.0 in
    let a = c.saying.ensures in
    let put : List Letter → ℕ → Option (List Letter) = λ ls k. cond (eqb k j) (Some ls) (got_of s.got k) in
    let got : got_of c.put.new.self ≡ put (letters_of c.args.letters.now) = c.put.ensures ∙ ap put c.in_ok-clone.ensures.cases in
    λ q. record {
      state = ap (with_got w) got;
      appends = ap records_of a.appends;
      says = ap (λ v. parcels_of (vec_items v)) a.says
          ∙ c.in_ok-say_ready.ensures q
          ∙ (λ k. parcels_of (c.new-says.ensures.items k) ++ says_ready (job_in s q) s.station.me.0 (with_got w (got k)));
      outcome = a.outcome;
    }
