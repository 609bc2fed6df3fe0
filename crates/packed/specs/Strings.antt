-- What a `Strings` holds.
-- Assumes nothing.
use Rattle.std.specs.Prelude.{ℕ, ◌-◌, List, vec_items, vec_len, vec_capacity, slice_index}
use Rattle.packed.specs.declared.store.Strings.{Strings}
use Rattle.packed.specs.Cut.{strings}

-- the strings, in order
abbrev pub items : Strings → List (List ℕ)
items s = strings (vec_items s.cuts) (vec_items s.pool)

-- how much of the pool they take
abbrev pub used : Strings → ℕ
used s = slice_index (vec_items s.cuts) (vec_len s.cuts - 1)

-- room that is there already: for so many more strings, and for so many more bytes
abbrev pub spare : Strings → ℕ
spare s = vec_capacity s.cuts - vec_len s.cuts

abbrev pub spare_bytes : Strings → ℕ
spare_bytes s = vec_len s.pool - used s
