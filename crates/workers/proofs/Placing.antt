-- Which places come, of a list of them and of a table.
use Rattle.std.proofs.Common.{◌≡◌, ℕ, Bool, true, false, cond, List, [], ◌∷◌, map, filter, Option, refl, ap}
use Rattle.std.specs.Iterator.{AlwaysYields}
use Rattle.std.specs.Iterator.Adapters.{copied_source}
use Rattle.std.specs.Slice.Iter.{iter_rest}
use Rattle.std.specs.declared.iter.Copied.{Copied}
use Rattle.std.proofs.Common.{Iter}
use Rattle.std.proofs.iter.Yields.{copies}
use Rattle.std.proofs.lemmas.Fn.{fronts}
use Rattle.std.proofs.lemmas.Iterator.{YieldsList-from_slice}
use Rattle.std.proofs.lemmas.Iterator.Consumers.{YieldsList-from_copied}
use Rattle.meaning.specs.declared.numbers.Place.{Place}
use Rattle.rounds.specs.Yielding.{YieldsPlaces, number}

-- what is read of each item
read_on : {S A B C : Type 0} (steps : S → Option A → S → Type 0) (v : A → B) (w : B → C) (ys : List B) (s : S) → AlwaysYields steps v s ys → AlwaysYields steps (λ x. w (v x)) s (map w ys)
read_on steps v w [] s h = h
read_on steps v w (y ∷ ys) s h = (h.0, λ x j k. (ap w (h.1 x j k).0, read_on steps v w ys j (h.1 x j k).1))

pub copied_places : (s : Copied (Iter Place)) (ps : List Place) → iter_rest (copied_source s) ≡ ps → YieldsPlaces (copies (fronts {A = Place})) s (map number ps)
copied_places s ps e = record { always = read_on (copies (fronts {A = Place})) (λ (x : Place). x) number ps s (YieldsList-from_copied {s = s} (YieldsList-from_slice ps e)).runs }

abbrev pub placed_at : ℕ → Place
placed_at v = record { 0 = v }

-- the numbers of the places that pass are the numbers that pass
pub numbers_kept : (p : ℕ → Bool) (vs : List ℕ) → map number (filter (λ (x : Place). p x.0) (map placed_at vs)) ≡ filter p vs
numbers_kept p [] = refl
numbers_kept p (v ∷ vs) = go (p v) (numbers_kept p vs)
  where
    go : (b : Bool) → map number (filter (λ (x : Place). p x.0) (map placed_at vs)) ≡ filter p vs → map number (cond b (placed_at v ∷ filter (λ (x : Place). p x.0) (map placed_at vs)) (filter (λ (x : Place). p x.0) (map placed_at vs))) ≡ cond b (v ∷ filter p vs) (filter p vs)
    go true e = ap (λ l. v ∷ l) e
    go false e = e
