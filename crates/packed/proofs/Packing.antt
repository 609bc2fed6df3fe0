-- What packed strings are after one more, and where each lies.
use Rattle.std.proofs.Common.{Bool, true, false, cond, replicate, length-take, ◌≡◌, ℕ, ◌+◌, ◌-◌, ◌<◌, ◌≤◌, List, [], ◌∷◌, ◌++◌, map, length, get_or, take, drop, sym, ap, ◌∙◌, arith, length-append}
use Rattle.std.specs.List.{between, range_with_len}
use Rattle.std.proofs.lemmas.List.{get_or_append_left, get_or_push, ext_get_or, take-take, take-append-le}
use Rattle.std.proofs.lemmas.Slice.{between_is}
use Rattle.std.proofs.lemmas.List.FromFn.{length-map-range_with_len, get_or-map-range_with_len, map-range_with_len_more}
use Rattle.packed.specs.Cut.{Rises, string_at, strings}

pub length_strings : (cuts pool : List ℕ) → length (strings cuts pool) ≡ length cuts - 1
length_strings cuts pool = length-map-range_with_len (string_at cuts pool) 0 (length cuts - 1)

pub get_or_strings : (cuts pool : List ℕ) (k : ℕ) → k < length cuts - 1 → get_or (strings cuts pool) k [] ≡ string_at cuts pool k
get_or_strings cuts pool k h = get_or-map-range_with_len (string_at cuts pool) 0 (length cuts - 1) k k [] h (omega arith)

-- what lies in a front that two lists share lies in both
pub shared_front : (xs ys : List ℕ) (n i j : ℕ) → take n xs ≡ take n ys → j ≤ n → between i j xs ≡ between i j ys
shared_front xs ys n i j e h =
    between_is xs i j
    ∙ ap (drop i) (sym (take-take j n xs h) ∙ ap (take j) e ∙ take-take j n ys h)
    ∙ sym (between_is ys i j)

-- a list that is made longer keeps its front
pub grown_front : (b : Bool) (xs ys : List ℕ) (n w m : ℕ) → ys ≡ cond b (take w xs ++ replicate m 0) xs → n ≤ w → n ≤ length xs → take n ys ≡ take n xs
grown_front true xs ys n w m e h k = ap (take n) e ∙ take-append-le n (take w xs) (replicate m 0) (omega (arith, length-take w xs)) ∙ take-take n w xs h
grown_front false xs ys n w m e h k = ap (take n) e

-- strings that lie in a front that two pools share are the same
pub strings_same : (cuts pool pool' : List ℕ) → Rises cuts → take (get_or cuts (length cuts - 1) 0) pool' ≡ take (get_or cuts (length cuts - 1) 0) pool → strings cuts pool' ≡ strings cuts pool
strings_same cuts pool pool' up e =
    ext_get_or [] _ _
    (length_strings cuts pool' ∙ sym (length_strings cuts pool))
    (λ k h.
    let b : k < length cuts - 1 = omega (arith, length_strings cuts pool') in
    get_or_strings cuts pool' k b
    ∙ shared_front pool' pool (get_or cuts (length cuts - 1) 0) (get_or cuts k 0) (get_or cuts (k + 1) 0) e (up (k + 1) (length cuts - 1) (omega arith) (omega arith))
    ∙ sym (get_or_strings cuts pool k b))

module _ (cuts pool pool' s : List ℕ) (e : ℕ) (some : 0 < length cuts) (up : Rises cuts) (same : take (get_or cuts (length cuts - 1) 0) pool' ≡ take (get_or cuts (length cuts - 1) 0) pool) (new : between (get_or cuts (length cuts - 1) 0) e pool' ≡ s) where
  here : string_at (cuts ++ e ∷ []) pool' (length cuts - 1) ≡ s
  here = (λ i. between (start i) (stop i) pool') ∙ new
    where
      start : get_or (cuts ++ e ∷ []) (length cuts - 1) 0 ≡ get_or cuts (length cuts - 1) 0
      start = get_or_append_left cuts (e ∷ []) 0 (length cuts - 1) (omega arith)

      stop : get_or (cuts ++ e ∷ []) (length cuts - 1 + 1) 0 ≡ e
      stop = get_or_push cuts e 0 (length cuts - 1 + 1) (omega arith)

  before : (k : ℕ) → k < length cuts - 1 → string_at (cuts ++ e ∷ []) pool' k ≡ string_at cuts pool k
  before k h =
      (λ i. between (start i) (stop i) pool')
      ∙ shared_front pool' pool (get_or cuts (length cuts - 1) 0) (get_or cuts k 0) (get_or cuts (k + 1) 0) same (up (k + 1) (length cuts - 1) (omega arith) (omega arith))
    where
      start : get_or (cuts ++ e ∷ []) k 0 ≡ get_or cuts k 0
      start = get_or_append_left cuts (e ∷ []) 0 k (omega arith)

      stop : get_or (cuts ++ e ∷ []) (k + 1) 0 ≡ get_or cuts (k + 1) 0
      stop = get_or_append_left cuts (e ∷ []) 0 (k + 1) (omega arith)

  front : map (string_at (cuts ++ e ∷ []) pool') (range_with_len 0 (length cuts - 1)) ≡ strings cuts pool
  front =
      ext_get_or [] _ _
      (length-map-range_with_len (string_at (cuts ++ e ∷ []) pool') 0 (length cuts - 1) ∙ sym (length_strings cuts pool))
      (λ k h.
      let b : k < length cuts - 1 = omega (arith, length-map-range_with_len (string_at (cuts ++ e ∷ []) pool') 0 (length cuts - 1)) in
      get_or-map-range_with_len (string_at (cuts ++ e ∷ []) pool') 0 (length cuts - 1) k k [] b (omega arith)
      ∙ before k b
      ∙ sym (get_or_strings cuts pool k b))

  pub strings_push : strings (cuts ++ e ∷ []) pool' ≡ strings cuts pool ++ s ∷ []
  strings_push =
      ap (λ n. map (string_at (cuts ++ e ∷ []) pool') (range_with_len 0 n)) more
      ∙ map-range_with_len_more (string_at (cuts ++ e ∷ []) pool') 0 (length cuts - 1) (length cuts - 1) (omega arith)
      ∙ (λ i. front i ++ here i ∷ [])
    where
      more : length (cuts ++ e ∷ []) - 1 ≡ length cuts - 1 + 1
      more = omega (arith, length-append cuts (e ∷ []))
