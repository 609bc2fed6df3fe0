-- A case: a plan, places, who has which, what happens, and what is expected of it. What happens is done by the
-- definitions that the code's contracts cite.
-- Assumes nothing.
use Rattle.std.specs.Prelude.{◌≡◌, ℕ, Bool, List, map}
use Rattle.std.specs.List.{AllByRecursion}
use Rattle.meaning.specs.Meaning.{Letter, Program, World, letters_for, rounds, all_rest, is_over}

-- so many rounds by one machine alone
pub data Happening : Type 0 where
  alone : (done : ℕ) → Happening

-- of a world: a place's state; who sent the letters for a place, in order; whether all rest; whether it is over
pub data Expected : Type 0 where
  state : (place : ℕ) → List ℕ → Expected
  letters : (place : ℕ) → (senders : List ℕ) → Expected
  resting : Bool → Expected
  over : Bool → Expected

pub record Row : Type 0 where
  pub plan : Program
  pub places : ℕ
  pub owner : (place : ℕ) → ℕ
  pub happens : Happening
  pub expects : List Expected

abbrev pub outcome : Row → World
outcome r = elim r.happens [ alone k ↦ rounds r.places r.plan k ]

abbrev pub Met : (n : ℕ) → World → Expected → Type 0
Met n w (state v s) = w.state v ≡ s
Met n w (letters v us) = map (λ (l : Letter). l.from) (letters_for v w.post) ≡ us
Met n w (resting b) = all_rest n w.rests ≡ b
Met n w (over b) = is_over n w ≡ b

abbrev pub Holds : Row → Type 0
Holds r = AllByRecursion (Met r.places (outcome r)) r.expects
