-- What a loop over an iterator took, and which places come.
use Rattle.std.proofs.Common.{◌≡◌, ℕ, List, None, map, Option, sym, subst, arith}
use Rattle.std.proofs.iter.Yields.{nat_range_steps}
use Rattle.std.specs.List.{range_with_len}
use Rattle.std.specs.declared.ops.Range.{Range}
use Rattle.std.specs.Fn.{Called}
use Rattle.std.specs.Iterator.{Yields, AlwaysYields}
use Rattle.std.specs.Iterator.Adapters.{map_source, map_callee}
use Rattle.std.specs.declared.iter.Map.{Map}
use denote.Param.Members.{Mut}
use Rattle.std.proofs.lemmas.Iterator.{YieldsList, YieldsList-from_map_by, YieldsList-from_range, items_from_drains, maps}
use Rattle.meaning.specs.declared.numbers.Place.{Place}
use Rattle.rounds.specs.Yielding.{YieldsPlaces, number}
use Rattle.rounds.proofs.Turns.{map_same}

-- up to the end, it is what the iterator always yields
pub all_taken : {S A B : Type 0} {steps : S → Option A → S → Type 0} {v : A → B} {s : S} {all : List B} → YieldsList steps v s all → (xs : List A) (from t u : S) → from ≡ s → Yields steps from xs t → steps t None u → map v xs ≡ all
all_taken {steps = steps} {v = v} {all = all} road xs from t u same took ends = items_from_drains xs (t, took, λ _. (u, ends)) (subst (λ z. YieldsList steps v z all) (sym same) road)

-- places made of numbers that come
pub places_from : {S A F : Type 0} {steps : S → Option A → S → Type 0} {v : A → ℕ} {vs : List ℕ} {s : Map S F} (g : Mut F (A × Unit {0}) Place) (f : F) → YieldsList steps v (map_source s) vs → map_callee s ≡ f → ((x : A) (r : Place) (f' : F) → Called g f (x, tt) r f' → (f' ≡ f) × (number r ≡ v x)) → YieldsPlaces (maps steps g) s vs
places_from {steps = steps} {vs = vs} {s = s} g f road callee each = record { always = subst (AlwaysYields (maps steps g) number s) (map_same vs) (YieldsList-from_map_by g number (λ v. v) road callee each).runs }

-- all places, below n
pub all_places : {F : Type 0} {s : Map (Range ℕ) F} (g : Mut F (ℕ × Unit {0}) Place) (f : F) (n : ℕ) → map_source s ≡ record { start = 0; end = n } → map_callee s ≡ f → ((x : ℕ) (r : Place) (f' : F) → Called g f (x, tt) r f' → (f' ≡ f) × (number r ≡ x)) → YieldsPlaces (maps nat_range_steps g) s (range_with_len 0 n)
all_places g f n source callee each = places_from g f (YieldsList-from_range 0 n n source (omega arith)) callee each
