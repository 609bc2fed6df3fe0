use Rattle.std.proofs.Common.{◌≡◌, ℕ, zero, suc, ◌≤◌, ◌&&◌, Bool, false, List, [], ◌∷◌, length, get_or, vec_items, rules, refl, sym, ap, ◌∙◌, arith}
use borrow.Author.Tests.{tests}
use Rattle.std.specs.List.{list_all}
use Rattle.std.proofs.lemmas.List.{take_all}
use Rattle.crew.specs.Job.{all_below}
use Rattle.crew.specs.Worker.{all_true, view_in}
use Rattle.meaning.specs.Meaning.{all_rest}
use Rattle.rounds.specs.Work.{worked_of}
use Rattle.workers.specs.Phases.{worked_in}
use Rattle.workers.specs.declared.phase.Phase.TheVariants.{Worked}
use Rattle.workers.proofs.Below.{front_below}
use Rattle.workers.proofs.worker.Worker.next_rests.Goals as goal

all_are : (bs : List Bool) → list_all (λ (b : Bool). b) bs ≡ all_true bs
all_are [] = refl
all_are (b ∷ bs) = ap (λ t. b && t) (all_are bs)

all_of : (n : ℕ) (f : ℕ → Bool) → all_rest n f ≡ all_below n f
all_of zero f = refl
all_of (suc n) f = ap (λ t. f n && t) (all_of n f)

pub returns-else-ne : goal.returns-else-ne
returns-else-ne c =
    let s = c.args.self.now in
    let bs = vec_items s.next.standing.rests in
    let long : length bs ≤ length bs = omega arith in
    let e : s.phase ≡ Worked = search (rules, tests) in
    c.all_rest.ensures
    ∙ all_of (length bs) (λ v. get_or bs v false)
    ∙ sym (front_below (λ (b : Bool). b) (λ v. get_or bs v false) bs false (λ j. refl) (length bs) long)
    ∙ ap (list_all (λ (b : Bool). b)) (take_all (length bs) bs long)
    ∙ all_are bs
    ∙ ap (λ p. all_true (view_in (worked_in p (worked_of s.next))).rests) (sym e)
