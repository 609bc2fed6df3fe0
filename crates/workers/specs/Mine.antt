-- The places of a worker, by the table.
-- Assumes nothing.
use Rattle.std.specs.Prelude.{ℕ, List, filter, nat_eq}
use Rattle.std.specs.List.{range_with_len}
use Rattle.crew.specs.Shared.{owner_of}
use Rattle.crew.specs.declared.partition.Partition.{Partition}

-- those below c that are worker i's, rising
abbrev pub mine_below : Partition → (i c : ℕ) → List ℕ
mine_below p i c = filter (λ v. nat_eq i (owner_of p v)) (range_with_len 0 c)

abbrev pub mine_of : Partition → (i : ℕ) → List ℕ
mine_of p i = mine_below p i p.places
