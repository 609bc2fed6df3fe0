-- What a message comes to, and the numbers of refusals.
-- Assumes nothing.
use Rattle.std.specs.Prelude.{ℕ, Bool, true, false, cond, Ok, Err, Result}
use Rattle.crew.specs.declared.outcome.Refusal.{Refusal}
use Rattle.crew.specs.declared.outcome.Refusal.TheVariants.{Malformed, Stale, Double, Foreign, NotReady, NoCheckpoint, UsedUp}

abbrev pub number_of : Refusal → ℕ
number_of Malformed = 1
number_of Stale = 2
number_of Double = 3
number_of Foreign = 4
number_of NotReady = 5
number_of NoCheckpoint = 6
number_of UsedUp = 7

-- It was taken, or it was refused.
abbrev pub Outcome : Type 0
Outcome = Result (Unit {0}) Refusal

abbrev pub Taken : Outcome
Taken = Ok tt

abbrev pub Refused : Refusal → Outcome
Refused y = Err y

abbrev pub outcome_number : Outcome → ℕ
outcome_number (Ok done) = 0
outcome_number (Err y) = number_of y

-- Which of the seven reasons hold.
pub record Reasons : Type 0 where
  pub malformed : Bool
  pub stale : Bool
  pub double : Bool
  pub foreign : Bool
  pub unready : Bool
  pub missing : Bool
  pub full : Bool

abbrev pub wrong_kind : Reasons
wrong_kind = record { malformed = true; stale = false; double = false; foreign = false; unready = false; missing = false; full = false }

abbrev pub only_full : Reasons
only_full = record { malformed = false; stale = false; double = false; foreign = false; unready = false; missing = false; full = true }

-- The lowest number wins.
abbrev pub judged : Reasons → Outcome
judged y =
    cond y.malformed (Refused Malformed)
    (cond y.stale (Refused Stale)
    (cond y.double (Refused Double)
    (cond y.foreign (Refused Foreign)
    (cond y.unready (Refused NotReady)
    (cond y.missing (Refused NoCheckpoint)
    (cond y.full (Refused UsedUp)
    Taken))))))

abbrev pub is_taken : Outcome → Bool
is_taken (Ok done) = true
is_taken (Err y) = false
