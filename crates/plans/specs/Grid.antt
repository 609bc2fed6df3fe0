-- What the plan to measure with means.
-- Assumes nothing.
use Rattle.std.specs.Prelude.{ℕ, ◌+◌, ◌-◌, ◌*◌, ◌%◌, ◌^◌, Bool, cond, not, ◌&&◌, List, [], ◌∷◌, Some, None, Option, ◌==◌, nat_le, nat_lt}
use Rattle.meaning.specs.Meaning.{Input, Program}
use Rattle.plans.specs.Numbers.{be8, number_of, total_of}
use Rattle.plans.specs.Sending.{to_each}
use Rattle.plans.specs.declared.grid.Grid.{Grid}

abbrev pub only : Bool → ℕ → Option ℕ
only b v = cond b (Some v) None

-- the places above, to the left, to the right and below, in rows of w places
abbrev pub around : (w v : ℕ) → List (Option ℕ)
around w v =
    only (nat_le w v) (v - w)
    ∷ only (not (v % w == 0)) (v - 1)
    ∷ only (not (v % w == w - 1) && nat_lt (v + 1) (2 ^ 32)) (v + 1)
    ∷ only (nat_lt (v + w) (2 ^ 32)) (v + w)
    ∷ []

-- A place's number is stirred (by the step of a linear congruence) and what comes is added, mod 2^64. It goes to the
-- places around in each round before the last.
abbrev pub mixed : Input → ℕ
mixed x = number_of x.state * 6364136223846793005 + total_of x.letters + 1442695040888963407

abbrev pub spreading : Grid → Program
spreading p = record {
  first = be8;
  does = λ x. record {
    state = be8 (mixed x);
    sends = cond (nat_le p.last x.round) [] (to_each (be8 (mixed x)) (around p.width x.place));
    rests = nat_le p.last x.round;
  };
}
