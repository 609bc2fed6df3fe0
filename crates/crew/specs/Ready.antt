-- Who is ready, as the bits of one word.
-- Assumes nothing.
use Rattle.std.specs.Prelude.{ℕ, Bool, ◌==◌}
use Rattle.std.specs.Int.{bit_at}

-- worker j is among those of the word
abbrev pub bit : ℕ → ℕ → Bool
bit w j = bit_at w j == 1
