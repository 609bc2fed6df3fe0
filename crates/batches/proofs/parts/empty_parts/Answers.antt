use Rattle.std.proofs.Common.{◌≡◌, ℕ, zero, suc, ◌+◌, ◌≤◌, arith, IfOk, vec_len, vec_capacity, List, [], ◌∷◌, ◌++◌, map, length, replicate, rules, refl, sym, ap, ◌∙◌, Ok, Err, Result, Option, None, vec_items, Vec, Global}
use Rattle.std.specs.List.{FoldsTo, range_with_len}
use Rattle.std.specs.Iterator.{TryCollects}
use Rattle.std.specs.declared.alloc.AllocError.{AllocError}
use Rattle.std.proofs.lemmas.Iterator.{YieldsList, YieldsList-from_range, YieldsList-from_map_by}
use Rattle.std.proofs.lemmas.Iterator.Consumers.{YieldsList-end}
use Rattle.std.proofs.lemmas.List.{map_push, append_assoc, append-nil}
use Rattle.std.proofs.lemmas.Result.{IfOk-weaker}
use Rattle.meaning.specs.Meaning.{Letter}
use Rattle.meaning.specs.Packets.{letters_of}
use Rattle.meaning.specs.declared.letters.Letters.{Letters}
use Rattle.batches.proofs.parts.empty_parts.Goals as goal

-- the letters of an attempt to make some, and none where it failed
made : Result Letters AllocError → List Letter
made (Ok l) = letters_of l
made (Err e) = []

made_none : (r : Result Letters AllocError) → IfOk r (λ l. letters_of l ≡ []) → made r ≡ []
unfolding made
made_none (Ok l) h = h
made_none (Err e) h = refl

Adds : Vec Letters Global → Result Letters AllocError → Vec Letters Global → Type 0
Adds v x w = (y : Letters) × (Ok y ≡ x) × ((vec_items w ≡ vec_items v ++ y ∷ []) × (vec_len w ≡ vec_len v + length (y ∷ [])) × (vec_capacity v ≤ vec_capacity w))

-- what was made is added, one after the other
added : (xs : List (Result Letters AllocError)) (v w : Vec Letters Global) → FoldsTo Adds v xs w → map letters_of (vec_items w) ≡ map letters_of (vec_items v) ++ map made xs
unfolding Adds made
added [] v w h = ap (λ (u : Vec Letters Global). map letters_of (vec_items u)) (sym h) ∙ sym (append-nil (map letters_of (vec_items v)))
added (x ∷ xs) v w h =
    added xs h.0 w h.2
    ∙ ap (λ l. map letters_of l ++ map made xs) h.1.2.0
    ∙ ap (λ l. l ++ map made xs) (map_push letters_of (vec_items v) h.1.0)
    ∙ append_assoc (map letters_of (vec_items v)) (letters_of h.1.0 ∷ []) (map made xs)
    ∙ ap (λ r. map letters_of (vec_items v) ++ made r ∷ map made xs) h.1.1

nothings : (n a : ℕ) → map (λ (j : ℕ). []) (range_with_len a n) ≡ replicate {A = List Letter} n []
nothings zero a = refl
nothings (suc n) a = ap (λ l. [] ∷ l) (nothings n (a + 1))

-- what is collected is what was made
collected : {S : Type 0} {steps : S → Option (Result Letters AllocError) → S → Type 0} {s : S} {all : List (List Letter)} (r : Result (Vec Letters Global) AllocError)
    → IfOk r (TryCollects steps (λ x y. y ≡ x) (λ xs v. (vec_items v ≡ xs) × (vec_len v ≡ length xs)) (λ v xs w. (vec_items w ≡ vec_items v ++ xs) × (vec_len w ≡ vec_len v + length xs) × (vec_capacity v ≤ vec_capacity w)) s)
    → YieldsList steps made s all → IfOk r (λ v. map letters_of (vec_items v) ≡ all)
unfolding Adds made
collected {s = s} (Ok v) h road = added h.0 h.1 v h.4 ∙ (λ i. map letters_of (h.3.0 i) ++ (YieldsList-end road h.0 h.2.1.0 h.2.1.1 None h.2.0 refl h.2.1.2).0 i)
collected (Err e) h road = tt

pub returns : goal.returns
unfolding made
returns c =
    IfOk-weaker c.try_collect.result _ _
    (λ v h. h ∙ nothings c.args.count 0)
    (collected c.try_collect.result c.try_collect.ensures.ran (YieldsList-from_map_by _ made (λ (j : ℕ). []) (YieldsList-from_range 0 c.args.count c.args.count (cc) (omega arith)) c.map.ensures.closure (λ x r q k. (search rules, made_none r (let e : IfOk r (λ l. letters_of l ≡ []) = search rules in e)))))
