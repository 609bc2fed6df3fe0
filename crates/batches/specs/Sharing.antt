-- The parts of letters, by the worker that they go to.
-- Assumes nothing.
use Rattle.std.specs.Prelude.{ℕ, List, map, filter, nat_eq}
use Rattle.std.specs.List.{range_with_len}
use Rattle.meaning.specs.Meaning.{Letter}

-- letters to the places of worker j
abbrev pub part_of : (owner : ℕ → ℕ) → (j : ℕ) → List Letter → List Letter
part_of owner j = filter (λ (l : Letter). nat_eq j (owner l.to))

-- the parts of so many workers, in their order
abbrev pub parts_of : (owner : ℕ → ℕ) → (workers : ℕ) → List Letter → List (List Letter)
parts_of owner m ls = map (λ j. part_of owner j ls) (range_with_len 0 m)
