-- The foreman's machine as the model has it.
-- Assumes nothing.
use Rattle.std.specs.Prelude.{◌≡◌, ℕ, List, Option}
use Rattle.std.specs.Option.{ForSome}
use Rattle.crew.specs.Foreman as F
use Rattle.crew.specs.Job.{Job}
use Rattle.crew.specs.Journals as J
use Rattle.crew.specs.Messages.{Parcel}
use Rattle.crew.specs.Paced.{foreman_of}
use Rattle.crew.specs.Stored.{note_of}
use Rattle.crew.specs.declared.foreman.Foreman.{Foreman}
use Rattle.crew.specs.declared.journal.Note.{Note}
use Rattle.runs.specs.World as world
use Rattle.world.specs.Machines.{Came, machine_of}
use Rattle.world.specs.declared.machine.Machine.{Machine}

abbrev pub desk_of : Machine Foreman Note → world.Machine F.Foreman J.Note
desk_of = machine_of foreman_of note_of

-- the foreman, where it is up, has so many workers
abbrev pub Heads : (m : ℕ) → Option Foreman → Type 0
Heads m o = ForSome o (λ f. f.workers ≡ m)

-- a call was made by the foreman, and this is what is to be said
abbrev pub Led : Job → world.Call → (x y : world.Machine F.Foreman J.Note) → List Parcel → Type 0
Led b c x y = Came (world.foreman_call b c x.journal x.up) x y
