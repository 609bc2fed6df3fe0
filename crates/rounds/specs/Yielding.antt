-- Places that come one after the other.
-- Assumes nothing.
use Rattle.std.specs.Prelude.{ℕ, List, Option}
use Rattle.std.specs.Iterator.{AlwaysYields}
use Rattle.meaning.specs.declared.numbers.Place.{Place}

abbrev pub number : Place → ℕ
number p = p.0

-- from s on come the places of these numbers, and no more
pub record YieldsPlaces {S : Type 0} (steps : S → Option Place → S → Type 0) (s : S) (vs : List ℕ) : Type 0 where
  pub always : AlwaysYields steps number s vs
