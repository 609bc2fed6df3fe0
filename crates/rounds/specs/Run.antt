-- The run by one machine alone.
-- Assumes nothing.
use Rattle.std.specs.Prelude.{◌≡◌, ℕ, ◌<◌, ◌≤◌, vec_items}
use Rattle.packed.specs.Strings.{items}
use Rattle.meaning.specs.Caps.{place_cap, round_cap}
use Rattle.meaning.specs.Mail.{received}
use Rattle.meaning.specs.Meaning.{Program, View, rounds, seen}
use Rattle.rounds.specs.declared.alone.Alone.{Alone}
use Rattle.rounds.specs.declared.fault.Fault.{Fault}
use Rattle.rounds.specs.declared.fault.Fault.TheVariants.{Places, Rounds, Memory}

abbrev pub view_of : Alone → View
view_of a = record { states = items a.standing.states; rests = vec_items a.standing.rests; post = received a.inbox }

-- what the machine has is what the meaning says of its round
pub record Stands (n : ℕ) (q : Program) (a : Alone) : Type 0 where
  pub places : a.places ≡ n
  pub view : view_of a ≡ seen n (rounds n q a.round.0)

-- when a step after r rounds is refused for this reason
abbrev pub StepRefused : (r : ℕ) → Fault → Type 0
StepRefused r Places = ⊥
StepRefused r Rounds = round_cap ≤ r
StepRefused r Memory = Unit {0}

-- when a run of n places and so many rounds is
abbrev pub RunRefused : (n budget : ℕ) → Fault → Type 0
RunRefused n b Places = place_cap < n
RunRefused n b Rounds = round_cap < b
RunRefused n b Memory = Unit {0}
