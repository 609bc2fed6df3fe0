-- What is printed of rounds and places.
-- Assumes nothing.
use Rattle.std.specs.Prelude.{ℕ, ◌+◌, ◌/◌, ◌%◌, Bool, true, false, cond, List, [], ◌∷◌, ◌++◌, codes, decimal, nat_lt}
use Rattle.std.specs.List.{flat_map}

-- 0 to 9, then a to f
abbrev pub hex_digit : ℕ → ℕ
hex_digit d = cond (nat_lt d 10) (48 + d) (87 + d)

abbrev pub hex_byte : ℕ → List ℕ
hex_byte b = hex_digit (b / 16) ∷ (hex_digit (b % 16) ∷ [])

abbrev pub state_text : List ℕ → List ℕ
state_text [] = codes "-"
state_text (b ∷ bs) = flat_map hex_byte (b ∷ bs)

abbrev pub flag : Bool → List ℕ
flag true = codes "1"
flag false = codes "0"

abbrev pub head_text : ℕ → List ℕ
head_text r = codes "round " ++ (decimal r ++ codes "\n")

abbrev pub line_text : ℕ → Bool → List ℕ → List ℕ
line_text v b s = decimal v ++ (codes " " ++ (flag b ++ (codes " " ++ (state_text s ++ codes "\n"))))
