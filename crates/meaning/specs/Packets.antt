-- Letters as they are stored: heads beside bodies.
-- Assumes nothing.
use Rattle.std.specs.Prelude.{ℕ, ◌-◌, ◌<◌, List, [], ◌∷◌, length, vec_items, vec_len, vec_capacity, slice_index_or}
use Rattle.packed.specs.Strings.{items}
use Rattle.meaning.specs.Meaning.{Letter}
use Rattle.meaning.specs.declared.letters.Head.{Head}
use Rattle.meaning.specs.declared.letters.Letters.{Letters}
use Rattle.meaning.specs.declared.letters.Received.{Received}

abbrev pub letter_of : Head → List ℕ → Letter
letter_of h b = record { from = h.from.0; to = h.to.0; bytes = b }

abbrev pub paired : List Head → List (List ℕ) → List Letter
paired [] bs = []
paired (h ∷ hs) [] = []
paired (h ∷ hs) (b ∷ bs) = letter_of h b ∷ paired hs bs

-- the letters, in order
abbrev pub letters_of : Letters → List Letter
letters_of l = paired (vec_items l.heads) (items l.bodies)

-- what is read past the end of a table of heads, and of a list of letters
abbrev pub nobody : Head
nobody = record { from = record { 0 = 0 }; to = record { 0 = 0 } }

abbrev pub blank : Letter
blank = letter_of nobody []

-- how many more heads there is room for already
abbrev pub spare_heads : Letters → ℕ
spare_heads l = vec_capacity l.heads - vec_len l.heads

-- letter k, as its number finds it
abbrev pub letter_at : Letters → ℕ → Letter
letter_at l k = slice_index_or (letters_of l) k blank

-- every head names a place below n
abbrev pub There : ℕ → List Head → Type 0
There n hs = (k : ℕ) → k < length hs → (slice_index_or hs k nobody).to.0 < n

-- a letter as its reader sees it
abbrev pub received_of : Received → Letter
received_of x = letter_of x.head x.bytes.now
