-- The first part of what is split, and the first word, with what is left behind each.
use Rattle.std.proofs.Common.{◌≡◌, ℕ, suc, ◌+◌, ◌-◌, ◌<◌, Bool, true, false, cond, not, List, [], ◌∷◌, length, take, drop, sym, refl, ap, ◌∙◌, arith}
use Rattle.std.proofs.lemmas.List.{take_rest}
use Rattle.std.proofs.lemmas.List.Splits.{slice_split_first}
use Rattle.std.specs.List.{before_first, onto_first, position_or_len, slice_split}
use Rattle.script.specs.Text.{non_empty}

suc_is : (n : ℕ) → suc n ≡ 1 + n
suc_is n = omega arith

module _ (f : ℕ → Bool) where
  abbrev pub solid : ℕ → Bool
  solid c = not (f c)

  abbrev parts : List ℕ → List (List ℕ)
  parts cs = non_empty (slice_split f cs)

  parts_blank : (c : ℕ) (cs : List ℕ) → f c ≡ true → parts (c ∷ cs) ≡ parts cs
  parts_blank c cs e = ap (λ b. non_empty (cond b ([] ∷ slice_split f cs) (onto_first c (slice_split f cs)))) e

  onto_onto : (c d : ℕ) (ps : List (List ℕ)) → non_empty (onto_first c (onto_first d ps)) ≡ onto_first c (non_empty (onto_first d ps))
  onto_onto c d [] = refl
  onto_onto c d (p ∷ ps) = refl

  -- a word that has begun goes on to the next blank
  begun : (c : ℕ) (cs : List ℕ) → non_empty (onto_first c (slice_split f cs)) ≡ (c ∷ before_first f cs) ∷ parts (drop (position_or_len f cs) cs)
  begun c [] = refl
  begun c (d ∷ ds) = go (f d) refl (begun d ds)
    where
      go : (b : Bool) → f d ≡ b → non_empty (onto_first d (slice_split f ds)) ≡ (d ∷ before_first f ds) ∷ parts (drop (position_or_len f ds) ds) →
          non_empty (onto_first c (cond b ([] ∷ slice_split f ds) (onto_first d (slice_split f ds))))
          ≡ (c ∷ take (cond (not b) (1 + position_or_len f ds) 0) (d ∷ ds)) ∷ parts (drop (cond (not b) (1 + position_or_len f ds) 0) (d ∷ ds))
      go true e rest = ap (λ ps. (c ∷ []) ∷ ps) (sym (parts_blank d ds e))
      go false e rest =
          onto_onto c d (slice_split f ds)
          ∙ ap (onto_first c) rest
          ∙ ap (λ k. (c ∷ take k (d ∷ ds)) ∷ parts (drop k (d ∷ ds))) (suc_is (position_or_len f ds))

  pub word_none : (xs : List ℕ) → position_or_len solid xs ≡ length xs → parts xs ≡ []
  word_none [] e = refl
  word_none (c ∷ cs) e = go (f c) refl (word_none cs) e
    where
      go : (b : Bool) → f c ≡ b → (position_or_len solid cs ≡ length cs → parts cs ≡ []) → cond (not (not b)) (1 + position_or_len solid cs) 0 ≡ length (c ∷ cs) → parts (c ∷ cs) ≡ []
      go true t rest h = parts_blank c cs t ∙ rest (omega arith)
      go false t rest h = absurd (omega arith)

  -- the first word, behind the blanks before it, and what follows it
  pub word_first : (xs ys : List ℕ) (s e : ℕ) → position_or_len solid xs ≡ s → s < length xs → drop s xs ≡ ys → position_or_len f ys ≡ e → parts xs ≡ take e ys ∷ parts (drop e ys)
  word_first xs ys s e hs some hy he =
      first xs (omega (arith, hs, some))
      ∙ (λ i. before_first f (back i) ∷ parts (drop (position_or_len f (back i)) (back i)))
      ∙ (λ i. take (he i) ys ∷ parts (drop (he i) ys))
    where
      back : drop (position_or_len solid xs) xs ≡ ys
      back = ap (λ k. drop k xs) hs ∙ hy

      first : (zs : List ℕ) → position_or_len solid zs < length zs →
          parts zs ≡ before_first f (drop (position_or_len solid zs) zs) ∷ parts (drop (position_or_len f (drop (position_or_len solid zs) zs)) (drop (position_or_len solid zs) zs))
      first [] h = absurd (omega arith)
      first (c ∷ cs) h = go (f c) refl (first cs) h
        where
          tail : ℕ → List ℕ
          tail k = drop k (c ∷ cs)

          go : (b : Bool) → f c ≡ b →
              (position_or_len solid cs < length cs → parts cs ≡ before_first f (drop (position_or_len solid cs) cs) ∷ parts (drop (position_or_len f (drop (position_or_len solid cs) cs)) (drop (position_or_len solid cs) cs))) →
              cond (not (not b)) (1 + position_or_len solid cs) 0 < length (c ∷ cs) →
              parts (c ∷ cs) ≡ before_first f (tail (cond (not (not b)) (1 + position_or_len solid cs) 0)) ∷ parts (drop (position_or_len f (tail (cond (not (not b)) (1 + position_or_len solid cs) 0))) (tail (cond (not (not b)) (1 + position_or_len solid cs) 0)))
          go true t rest l =
              parts_blank c cs t
              ∙ rest (omega arith)
              ∙ ap (λ k. before_first f (tail k) ∷ parts (drop (position_or_len f (tail k)) (tail k))) (suc_is (position_or_len solid cs))
          go false t rest l =
              ap (λ b. non_empty (cond b ([] ∷ slice_split f cs) (onto_first c (slice_split f cs)))) t
              ∙ begun c cs
              ∙ ap (λ k. take k (c ∷ cs) ∷ parts (drop k (c ∷ cs))) (suc_is (position_or_len f cs))
              ∙ ap (λ b. take (cond (not b) (1 + position_or_len f cs) 0) (c ∷ cs) ∷ parts (drop (cond (not b) (1 + position_or_len f cs) 0) (c ∷ cs))) (sym t)

  -- the same, as code cuts
  pub word_next : (xs : List ℕ) (s e : ℕ) → position_or_len solid xs ≡ s → s < length xs → position_or_len f (take (length xs - s) (drop s xs)) ≡ e →
      parts xs ≡ take e (take (length xs - s) (drop s xs)) ∷ parts (take (length (take (length xs - s) (drop s xs)) - e) (drop e (take (length xs - s) (drop s xs))))
  word_next xs s e hs some he =
      word_first xs rest s e hs some (sym (take_rest xs s)) he
      ∙ ap (λ l. take e rest ∷ parts l) (sym (take_rest rest e))
    where
      rest : List ℕ
      rest = take (length xs - s) (drop s xs)

  -- the first part, up to where a part ends, and those that are left
  pub parts_next : (xs : List ℕ) (k : ℕ) → position_or_len f xs ≡ k → k < length xs → slice_split f xs ≡ take k xs ∷ slice_split f (drop (k + 1) xs)
  parts_next xs k at some = slice_split_first f xs 0 (omega (arith, at, some)) ∙ (λ i. take (at i) xs ∷ slice_split f (drop (at i + 1) xs))

  pub parts_last : (xs : List ℕ) → position_or_len f xs ≡ length xs → slice_split f xs ≡ xs ∷ []
  parts_last [] e = refl
  parts_last (c ∷ cs) e = go (f c) (parts_last cs) e
    where
      go : (b : Bool) → (position_or_len f cs ≡ length cs → slice_split f cs ≡ cs ∷ []) → cond (not b) (1 + position_or_len f cs) 0 ≡ length (c ∷ cs) →
          cond b ([] ∷ slice_split f cs) (onto_first c (slice_split f cs)) ≡ (c ∷ cs) ∷ []
      go true rest h = absurd (omega arith)
      go false rest h = ap (onto_first c) (rest (omega arith))
