-- What machines keep across a crash: records, the oldest first.
-- Assumes nothing.
use Rattle.std.specs.Prelude.{ℕ, max, cond, List, [], ◌∷◌, Some, None, Option, ◌==◌, nat_lt}
use Rattle.meaning.specs.Meaning.{View}

-- a worker's: what it had after a round; an attempt that it joined
pub data Record : Type 0 where
  Checkpoint : (round : ℕ) → View → Record
  Joined : (attempt : ℕ) → Record

-- the foreman's: an attempt that it began; the last round of which all have a checkpoint
pub data Note : Type 0 where
  Began : (attempt : ℕ) → Note
  Noted : (round : ℕ) → Note

-- The last of each kind counts. Each is looked for from a value on, which stands where there is none.
abbrev pub last_joined : ℕ → List Record → ℕ
last_joined k [] = k
last_joined k (Checkpoint r s ∷ xs) = last_joined k xs
last_joined k (Joined j ∷ xs) = last_joined j xs

abbrev pub last_began : ℕ → List Note → ℕ
last_began k [] = k
last_began k (Began j ∷ xs) = last_began j xs
last_began k (Noted r ∷ xs) = last_began k xs

abbrev pub last_noted : ℕ → List Note → ℕ
last_noted r [] = r
last_noted r (Began j ∷ xs) = last_noted r xs
last_noted r (Noted s ∷ xs) = last_noted s xs

-- the last checkpoint of round r
abbrev pub checkpoint_from : Option View → (r : ℕ) → List Record → Option View
checkpoint_from o r [] = o
checkpoint_from o r (Checkpoint t s ∷ xs) = checkpoint_from (cond (r == t) (Some s) o) r xs
checkpoint_from o r (Joined j ∷ xs) = checkpoint_from o r xs

abbrev pub checkpoint_of : (r : ℕ) → List Record → Option View
checkpoint_of r = checkpoint_from None r

-- the greatest round below r of which there is a checkpoint, from g on
abbrev pub greatest_below : (g r : ℕ) → List Record → ℕ
greatest_below g r [] = g
greatest_below g r (Checkpoint t s ∷ xs) = greatest_below (cond (nat_lt t r) (max g t) g) r xs
greatest_below g r (Joined j ∷ xs) = greatest_below g r xs
