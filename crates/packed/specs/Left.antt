-- What an iterator over packed strings has before it.
-- Assumes nothing.
use Rattle.std.specs.Prelude.{ℕ, List, drop}
use Rattle.packed.specs.Strings.{items}
use Rattle.packed.specs.declared.store.Iter.{Iter}

abbrev pub strings_left : Iter → List (List ℕ)
strings_left s = drop s.next (items s.strings.now)
