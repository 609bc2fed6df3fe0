-- Byte strings laid end to end in one pool, with a table of where each begins and the last ends.
-- Assumes nothing.
use Rattle.std.specs.Prelude.{ℕ, ◌+◌, ◌-◌, ◌<◌, ◌≤◌, List, map, length, slice_index}
use Rattle.std.specs.List.{between, range_with_len}

-- cuts never fall
abbrev pub Rises : List ℕ → Type 0
Rises cuts = (i j : ℕ) → i ≤ j → j < length cuts → slice_index cuts i ≤ slice_index cuts j

-- the string between two following cuts
abbrev pub string_at : List ℕ → List ℕ → ℕ → List ℕ
string_at cuts pool k = between (slice_index cuts k) (slice_index cuts (k + 1)) pool

-- all of them, in order
abbrev pub strings : List ℕ → List ℕ → List (List ℕ)
strings cuts pool = map (string_at cuts pool) (range_with_len 0 (length cuts - 1))
