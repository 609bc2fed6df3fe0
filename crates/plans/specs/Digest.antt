-- The digest of all that a place is given (FNV-1a, 64 bits).
-- Assumes nothing.
use Rattle.std.specs.Prelude.{ℕ, ◌*◌, ◌%◌, ◌^◌, List, ◌∷◌, ◌++◌, length, fold, bit_xor}
use Rattle.std.specs.List.{flat_map}
use Rattle.meaning.specs.Meaning.{Letter, Input}
use Rattle.plans.specs.Numbers.{be2, be4}

-- a digest and one byte more
abbrev pub stirred : (h b : ℕ) → ℕ
stirred h b = bit_xor h b * 1099511628211 % 2 ^ 64

-- a digest and these bytes more
abbrev pub hashed : ℕ → List ℕ → ℕ
hashed h bs = fold stirred h bs

-- the bytes that stand for a letter: who sent it, how long it is, and what it says
abbrev pub spelled : Letter → List ℕ
spelled l = be4 l.from ++ (length l.bytes % 256 ∷ l.bytes)

-- the bytes that stand for all that a place is given
abbrev pub spelled_all : Input → List ℕ
spelled_all x =
    be4 x.round
    ++ (be4 x.place
    ++ (be2 (length x.state)
    ++ (x.state
    ++ (be4 (length x.letters)
    ++ flat_map spelled x.letters))))

unfoldable pub digest_of : Input → ℕ
digest_of x = hashed 14695981039346656037 (spelled_all x)
