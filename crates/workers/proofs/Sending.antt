-- A batch to each of so many workers.
use Rattle.std.proofs.Common.{◌≡◌, ℕ, zero, suc, ◌+◌, ◌≤◌, List, [], ◌∷◌, map, length, refl, ap, arith}
use Rattle.std.specs.List.{range_with_len, zip}
use Rattle.meaning.specs.Meaning.{Letter}
use Rattle.meaning.specs.Packets.{letters_of}
use Rattle.meaning.specs.declared.letters.Letters.{Letters}
use Rattle.crew.specs.Messages.{Parcel}
use Rattle.workers.specs.Saying.{batch_with, batches_from}

module _ (i k r : ℕ) where
  pub batches_are : (f : ℕ → List Letter) (a n : ℕ) → batches_from i k r a (map f (range_with_len a n)) ≡ map (λ j. batch_with i k r j (f j)) (range_with_len a n)
  batches_are f a zero = refl
  batches_are f a (suc n) = ap (λ l. batch_with i k r a (f a) ∷ l) (batches_are f (a + 1) n)

  -- one for each number from a on, while there are parts
  pub numbered : {X : Type 0} (seen : X → Parcel) (made : ℕ × Letters → X) → ((j : ℕ) (x : Letters) → seen (made (j, x)) ≡ batch_with i k r j (letters_of x)) → (a n : ℕ) (xs : List Letters) → length xs ≤ n → map seen (map made (zip (range_with_len a n) xs)) ≡ batches_from i k r a (map letters_of xs)
  numbered seen made each a zero [] h = refl
  numbered seen made each a zero (x ∷ xs) h = absurd (omega arith)
  numbered seen made each a (suc n) [] h = refl
  numbered seen made each a (suc n) (x ∷ xs) h = λ t. each a x t ∷ numbered seen made each (a + 1) n xs (omega arith) t
