-- The table of who has which place, as stretches and as it is stored.
-- Assumes nothing.
use Rattle.std.specs.Prelude.{◌≡◌, ℕ, zero, suc, ◌+◌, ◌*◌, ◌/◌, ◌<◌, ◌≤◌, Bool, true, false, cond, ◌&&◌, ◌⊎◌, List, [], ◌∷◌, length, get_or, Some, None, vec_items, Option, ◌==◌, nat_le, nat_lt, slice_index, slice_index_or}
use Rattle.meaning.specs.Caps.{place_cap}
use Rattle.meaning.specs.Meaning.{Program}
use Rattle.meaning.specs.declared.numbers.Place.{Place}
use Rattle.crew.specs.Job.{Job, worker_cap}
use Rattle.crew.specs.declared.partition.Partition.{Partition}
use Rattle.crew.specs.declared.partition.PartitionFault.{PartitionFault}
use Rattle.crew.specs.declared.partition.PartitionFault.TheVariants.{Places, Workers, Stretches, Memory}
use Rattle.crew.specs.declared.partition.Stretch.{Stretch}

-- the worker of place v is that of the last stretch that begins at or before it
abbrev pub owner_from : ℕ → List Stretch → ℕ → ℕ
owner_from w [] v = w
owner_from w (s ∷ ss) v = owner_from (cond (nat_le s.first.0 v) s.worker.0 w) ss v

abbrev pub owner_of : Partition → ℕ → ℕ
owner_of p v = slice_index (vec_items p.owners) v

-- the job of a crew with this table
abbrev pub job_of : Partition → Program → Job
job_of p q = record { places = p.places; program = q; workers = p.workers; owner = owner_of p }

-- what is read past the end of a list of stretches
abbrev pub nowhere : Stretch
nowhere = record { first = record { 0 = 0 }; worker = record { 0 = 0 } }

-- the first stretch begins at place 0, each other one after the one before it
abbrev pub comes_next : Option Place → Place → Bool
comes_next None v = v.0 == 0
comes_next (Some u) v = nat_lt u.0 v.0

-- of n places and m workers, a stretch can stand after one that begins at u, or as the first
abbrev pub can_follow : (n m : ℕ) → (u : Option Place) → Stretch → Bool
can_follow n m u s = comes_next u s.first && (nat_lt s.first.0 n && nat_lt s.worker.0 m)

abbrev pub start_before : List Stretch → ℕ → Option Place
start_before ss zero = None
start_before ss (suc i) = Some (get_or ss i nowhere).first

abbrev pub stands : (n m : ℕ) → List Stretch → (i : ℕ) → Bool
stands n m ss i = can_follow n m (start_before ss i) (slice_index_or ss i nowhere)

-- stretches that give each of n places to one of m workers
pub record Covers (n m : ℕ) (ss : List Stretch) : Type 0 where
  pub some : 0 < n → 0 < length ss
  pub each : (i : ℕ) → i < length ss → stands n m ss i ≡ true

-- stretch i is not one that can stand there, or there is none though there are places
abbrev pub Misplaced : (n m : ℕ) → List Stretch → (i : ℕ) → Type 0
Misplaced n m ss i = ((i < length ss) × (stands n m ss i ≡ false)) ⊎ ((i ≡ 0) × (length ss ≡ 0) × (0 < n))

-- a stretch that cannot stand there, and for no other reason
abbrev pub StretchRefused : (n m : ℕ) → List Stretch → PartitionFault → Type 0
StretchRefused n m ss e = (i : ℕ) × (e ≡ Stretches i) × Misplaced n m ss i

-- where worker w's places begin when n places are shared out evenly among m
abbrev pub share_start : (n m w : ℕ) → ℕ
share_start n m w = w * n / m

abbrev pub Even : (n m : ℕ) → (owner : ℕ → ℕ) → Type 0
Even n m owner = (w v : ℕ) → w < m → share_start n m w ≤ v → v < share_start n m (w + 1) → owner v ≡ w

-- when a table of n places and m workers is refused for this reason
abbrev pub PartitionRefused : (n m : ℕ) → (bad : ℕ → Type 0) → PartitionFault → Type 0
PartitionRefused n m bad Places = place_cap < n
PartitionRefused n m bad Workers = (m ≡ 0) ⊎ (worker_cap < m)
PartitionRefused n m bad (Stretches i) = bad i
PartitionRefused n m bad Memory = Unit {0}
