-- Sums and numbers whose high bits are lost on the way.
use Rattle.std.proofs.Common.{◌≡◌, ℕ, ◌+◌, ◌*◌, ◌/◌, ◌%◌, ◌^◌, List, [], ◌∷◌, fold, map, length, get_or, refl, ap, ◌∙◌, arith}
use lib.Pow.{mod-mod-pow}
use Rattle.std.specs.List.{range_with_len}
use Rattle.std.proofs.lemmas.Nat.{field_of}
use Rattle.std.proofs.lemmas.List.FromFn.{fill_by_all}
use Rattle.std.proofs.lemmas.List.Folds.{fold_along}
use Rattle.plans.specs.Numbers.{be2, be4, be8, number_of}

-- a byte that a number cut to j + 8 + k bits still has
byte_low : (n j k : ℕ) → n % 2 ^ (j + 8 + k) / 2 ^ k % 2 ^ 8 ≡ n / 2 ^ k % 2 ^ 8
byte_low n j k = ap (λ m. m % 2 ^ 8) (field_of n (j + 8) k) ∙ mod-mod-pow (n / 2 ^ k) j 8

-- so the low bytes of a cut number are the number's
pub be2_low : (n : ℕ) → be2 (n % 2 ^ 16) ≡ be2 n
be2_low n i = byte_low n 0 8 i ∷ mod-mod-pow n 8 8 i ∷ []

pub be4_low : (n : ℕ) → be4 (n % 2 ^ 32) ≡ be4 n
be4_low n i = byte_low n 0 24 i ∷ byte_low n 8 16 i ∷ byte_low n 16 8 i ∷ mod-mod-pow n 24 8 i ∷ []

pub be8_low : (n : ℕ) → be8 (n % 2 ^ 64) ≡ be8 n
be8_low n i =
    byte_low n 0 56 i ∷ byte_low n 8 48 i ∷ byte_low n 16 40 i ∷ byte_low n 24 32 i
    ∷ byte_low n 32 24 i ∷ byte_low n 40 16 i ∷ byte_low n 48 8 i ∷ mod-mod-pow n 56 8 i ∷ []

-- the number that is written in so many bytes
pub number_listed : (bs : List ℕ) (n : ℕ) → length bs ≡ n → number_of bs ≡ number_of (map (λ k. get_or bs k 0) (range_with_len 0 n))
number_listed bs n long = ap number_of (fill_by_all (λ k. get_or bs k 0) bs n 0 long (λ k h. refl))

-- byte by byte, with the high bits lost at each
pub number_low : (bs : List ℕ) → fold (λ n b. (n * 256 % 2 ^ 64 + b) % 2 ^ 64) 0 bs ≡ number_of bs % 2 ^ 64
number_low bs = fold_along (λ n b. (n * 256 % 2 ^ 64 + b) % 2 ^ 64) (λ n b. n * 256 + b) (λ n m. n ≡ m % 2 ^ 64) (λ n m b e. omega arith) 0 0 bs (omega arith)
