-- A machine as the model has it.
-- Assumes nothing.
use Rattle.std.specs.Prelude.{◌≡◌, List, map, vec_items}
use Rattle.std.specs.Option.{option_map}
use Rattle.crew.specs.Messages.{Parcel}
use Rattle.runs.specs.World as world
use Rattle.world.specs.declared.machine.Machine.{Machine}

-- by what it means while it is up, and what its records mean
abbrev pub machine_of : {M R S T : Type 0} → (M → S) → (R → T) → Machine M R → world.Machine S T
machine_of mind record' m = record { up = option_map mind m.up; journal = map record' (vec_items m.journal.records) }

-- a call came to what the model says: the machine then, and what is to be said
pub record Came {S T : Type 0} (e : world.Effect S T) (x y : world.Machine S T) (ps : List Parcel) : Type 0 where
  pub machine : y ≡ world.after x e
  pub says : ps ≡ e.says
