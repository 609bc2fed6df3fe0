-- How a worker comes up, in one equation.
use Rattle.std.proofs.Common.{◌≡◌, ℕ, cond, List, [], ◌∷◌, refl}
use Rattle.meaning.specs.Meaning.{none}
use Rattle.crew.specs.Job.{Job}
use Rattle.crew.specs.Journals as J
use Rattle.crew.specs.Messages.{Hello}
use Rattle.crew.specs.Worker as W
use Rattle.crew.specs.Outcomes.{Taken}
use Rattle.workers.specs.Crewed.{started_as}

abbrev pub opened_by : Job → (i : ℕ) → List J.Record → W.Reply
opened_by b i xs =
    record {
      state = started_as b i (none xs) (J.last_joined 0 xs);
      appends = cond (none xs) (J.Joined (J.last_joined 0 xs) ∷ []) [];
      says = cond (none xs) [] (W.to_foreman i (Hello (J.last_joined 0 xs)) ∷ []);
      outcome = Taken;
    }

pub opened_is : (b : Job) (i : ℕ) (xs : List J.Record) → opened_by b i xs ≡ W.opened b i xs
opened_is b i [] = refl
opened_is b i (x ∷ xs) = refl
