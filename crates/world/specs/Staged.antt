-- A crew as it is stored.
-- Assumes nothing.
use Rattle.std.specs.Prelude.{◌≡◌, ℕ, List, [], ◌∷◌, ◌++◌, Some, None, vec_items, Option}
use Rattle.std.specs.VecDeque.{deque_items}
use Rattle.crew.specs.Job.{Job}
use Rattle.crew.specs.Messages.{Parcel}
use Rattle.crew.specs.Stored.{parcels_of}
use Rattle.runs.specs.Crew.{Crew, acts, with_underway}
use Rattle.runs.specs.World.{Call}
use Rattle.world.specs.Paced.{desk_of}
use Rattle.world.specs.Seated.{seat_at}
use Rattle.world.specs.declared.state.State.{State}

abbrev pub crew_of : State → Crew
crew_of s = record { worker = seat_at (vec_items s.seats); foreman = desk_of s.desk; underway = parcels_of (deque_items s.underway) }

-- what befell the crew has led from s to t
pub record Leads (befell : Crew → Crew) (s t : State) : Type 0 where
  pub table : t.table ≡ s.table
  pub crew : crew_of t ≡ befell (crew_of s)

-- so far only what a machine has to say is not yet under way
pub record Told (b : Job) (line : ℕ) (c : Call) (s t : State) (says : List Parcel) : Type 0 where
  pub table : t.table ≡ s.table
  pub underway : deque_items t.underway ≡ deque_items s.underway
  pub crew : (ps : List Parcel) → with_underway (crew_of t) (ps ++ says) ≡ acts b line c ps (crew_of s)

-- whom the message is for that is due next
abbrev pub due_to : List Parcel → Option ℕ
due_to [] = None
due_to (p ∷ ps) = Some p.to
