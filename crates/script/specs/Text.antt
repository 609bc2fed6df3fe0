-- How a script's bytes fall into lines and words, and what a number is.
-- Assumes nothing.
use Rattle.std.specs.Prelude.{ℕ, ◌+◌, ◌-◌, ◌*◌, Bool, true, cond, ◌&&◌, ◌||◌, List, [], ◌∷◌, length, Some, None, Option, ◌==◌, nat_le}
use Rattle.std.specs.List.{before_first, slice_split}

abbrev pub is_newline : ℕ → Bool
is_newline c = c == 10

abbrev pub is_hash : ℕ → Bool
is_hash c = c == 35

-- blank, tab and carriage return
abbrev pub is_blank : ℕ → Bool
is_blank c = c == 32 || (c == 9 || c == 13)

abbrev pub is_digit : ℕ → Bool
is_digit c = nat_le 48 c && nat_le c 57

abbrev pub non_empty : List (List ℕ) → List (List ℕ)
non_empty [] = []
non_empty ([] ∷ ps) = non_empty ps
non_empty ((c ∷ p) ∷ ps) = (c ∷ p) ∷ non_empty ps

-- What follows the last newline is a line too; where it is empty it says nothing.
abbrev pub lines_of : List ℕ → List (List ℕ)
lines_of text = slice_split is_newline text

abbrev pub spaced : List ℕ → List (List ℕ)
spaced cs = non_empty (slice_split is_blank cs)

-- a line's words: a comment is cut off first, so that it also ends a word
abbrev pub words_of : List ℕ → List (List ℕ)
words_of l = spaced (before_first is_hash l)

abbrev pub all_digits : List ℕ → Bool
all_digits [] = true
all_digits (c ∷ cs) = is_digit c && all_digits cs

-- what decimal digits are worth behind those that were worth n
abbrev pub worth_after : ℕ → List ℕ → ℕ
worth_after n [] = n
worth_after n (c ∷ cs) = worth_after (n * 10 + (c - 48)) cs

-- 1 to 10 decimal digits and nothing else
abbrev pub number_of : List ℕ → Option ℕ
number_of w = cond (nat_le 1 (length w) && (nat_le (length w) 10 && all_digits w)) (Some (worth_after 0 w)) None

abbrev pub within : ℕ → ℕ → Option ℕ → Option ℕ
within low high None = None
within low high (Some n) = cond (nat_le low n && nat_le n high) (Some n) None

-- a number from low to high
abbrev pub number_in : ℕ → ℕ → List ℕ → Option ℕ
number_in low high w = within low high (number_of w)

-- one such number and no other word
abbrev pub one_number : ℕ → ℕ → List (List ℕ) → Option ℕ
one_number low high [] = None
one_number low high (w ∷ []) = number_in low high w
one_number low high (w ∷ (v ∷ ws)) = None
