-- Numbers as bytes, the high byte first.
-- Assumes nothing.
use Rattle.std.specs.Prelude.{ℕ, ◌+◌, ◌*◌, ◌/◌, ◌%◌, List, [], ◌∷◌, fold, sum_by}
use Rattle.meaning.specs.Meaning.{Letter}

-- the low 2 bytes of a number
abbrev pub be2 : ℕ → List ℕ
be2 n = (n / 256 % 256) ∷ (n % 256) ∷ []

-- the low 4 bytes
abbrev pub be4 : ℕ → List ℕ
be4 n = (n / 16777216 % 256) ∷ (n / 65536 % 256) ∷ (n / 256 % 256) ∷ (n % 256) ∷ []

-- the low 8 bytes
abbrev pub be8 : ℕ → List ℕ
be8 n =
    (n / 72057594037927936 % 256) ∷ (n / 281474976710656 % 256) ∷ (n / 1099511627776 % 256) ∷ (n / 4294967296 % 256)
    ∷ (n / 16777216 % 256) ∷ (n / 65536 % 256) ∷ (n / 256 % 256) ∷ (n % 256) ∷ []

-- bytes as a number, however many they are
abbrev pub number_of : List ℕ → ℕ
number_of bs = fold (λ a b. a * 256 + b) 0 bs

-- the numbers in these letters, added up
abbrev pub total_of : List Letter → ℕ
total_of ls = sum_by (λ (l : Letter). number_of l.bytes) ls
