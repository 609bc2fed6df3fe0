-- The limits of the engine.
-- Assumes nothing.
use Rattle.std.specs.Prelude.{ℕ}

-- bytes of a state, letters that a place may send in a round, bytes of a letter, places
abbrev pub state_cap : ℕ
state_cap = 256

abbrev pub send_cap : ℕ
send_cap = 64

abbrev pub letter_cap : ℕ
letter_cap = 64

abbrev pub place_cap : ℕ
place_cap = 1048576

-- rounds, the last of which is never begun
abbrev pub round_cap : ℕ
round_cap = 2147483647
