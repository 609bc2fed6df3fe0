-- What is seen of a crew.
-- Assumes nothing.
use Rattle.std.specs.Prelude.{◌≡◌, ℕ, length, Some, None, vec_items, Option}
use Rattle.meaning.specs.Meaning.{Program}
use Rattle.crew.specs.Shared.{job_of}
use Rattle.crew.specs.Job.{meant}
use Rattle.runs.specs.Crew.{Led}
use Rattle.workers.specs.Crewed.{share_in}
use Rattle.workers.specs.declared.worker.Worker.{Worker}
use Rattle.world.specs.Seated.{worker_at}
use Rattle.world.specs.Staged.{crew_of}
use Rattle.world.specs.declared.look.Look.{Look}
use Rattle.world.specs.declared.state.State.{State}

-- some run on that program leads to this crew
abbrev pub Reached : Program → State → Type 0
Reached q s = Led (job_of s.table q) (crew_of s)

-- what is seen of a place is what the meaning says of it after so many rounds
pub record Meant (q : Program) (s : State) (x : Look) : Type 0 where
  pub state : x.state.now ≡ (meant (job_of s.table q) x.round.0).state x.place.0
  pub rests : x.rests ≡ (meant (job_of s.table q) x.round.0).rests x.place.0

-- how many places of the worker on a line can be seen: none where there is no such worker, or where it is down
abbrev pub places_up : Option Worker → ℕ
places_up None = 0
places_up (Some x) = length (share_in x).states

abbrev pub places_at : State → (line : ℕ) → ℕ
places_at s j = places_up (worker_at (vec_items s.seats) j)
