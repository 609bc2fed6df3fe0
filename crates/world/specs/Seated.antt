-- The workers' machines as the model has them.
-- Assumes nothing.
use Rattle.std.specs.Prelude.{◌≡◌, ℕ, List, [], map, None, vec_items, Option, slice_index_or}
use Rattle.std.specs.Option.{ForSome}
use Rattle.crew.specs.Job.{Job}
use Rattle.crew.specs.Journals as J
use Rattle.crew.specs.Messages.{Parcel}
use Rattle.crew.specs.Stored.{record_of}
use Rattle.crew.specs.Worker as W
use Rattle.crew.specs.declared.journal.Record.{Record}
use Rattle.crew.specs.declared.partition.Partition.{Partition}
use Rattle.runs.specs.World as world
use Rattle.workers.specs.Crewed.{worker_of}
use Rattle.workers.specs.declared.worker.Worker.{Worker}
use Rattle.world.specs.Machines.{Came, machine_of}
use Rattle.world.specs.declared.machine.Machine.{Machine}

abbrev pub Seat : Type 0
Seat = Machine Worker Record

abbrev pub seat_of : Seat → world.Machine W.Worker J.Record
seat_of = machine_of worker_of record_of

-- two tables say the same
abbrev pub SameTable : Partition → Partition → Type 0
SameTable t u = (t.places ≡ u.places) × (t.workers ≡ u.workers) × (vec_items t.owners ≡ vec_items u.owners)

-- who is up here, if anybody, is worker i, and goes by that table
abbrev pub Sits : Partition → (i : ℕ) → Option Worker → Type 0
Sits t i o = ForSome o (λ w. (w.station.me.0 ≡ i) × SameTable w.station.table t)

abbrev pub worker_at : List Seat → ℕ → Option Worker
worker_at xs k = slice_index_or (map (λ (s : Seat). s.up) xs) k None

-- each worker sits in its own seat, and all go by that table
abbrev pub Seated : Partition → List Seat → Type 0
Seated t xs = (k : ℕ) → Sits t k (worker_at xs k)

-- nobody is up and nothing is kept
abbrev pub nobody : world.Machine W.Worker J.Record
nobody = record { up = None; journal = [] }

-- past the last seat there is nobody
abbrev pub seat_at : List Seat → ℕ → world.Machine W.Worker J.Record
seat_at xs i = slice_index_or (map seat_of xs) i nobody

-- a worker that was never up
abbrev pub IsNew : Seat → Type 0
IsNew s = (s.up ≡ None) × (vec_items s.journal.records ≡ [])

-- a call was made by worker i, and this is what is to be said
abbrev pub Did : Job → (i : ℕ) → world.Call → (x y : world.Machine W.Worker J.Record) → List Parcel → Type 0
Did b i c x y = Came (world.worker_call b i c x.journal x.up) x y
