-- A view taken for a world, and a view with one place more.
-- Assumes nothing.
use Rattle.std.specs.Prelude.{ℕ, ◌≤◌, false, List, [], ◌∷◌, ◌++◌, length, slice_index_or}
use Rattle.meaning.specs.Caps.{state_cap}
use Rattle.meaning.specs.Meaning.{Letter, Input, letters_for, Turn, World, View}

-- places past the end have an empty state and do not rest
abbrev pub world_of : View → World
world_of s = record { state = λ v. slice_index_or s.states v []; rests = λ v. slice_index_or s.rests v false; post = s.post }

abbrev pub blank_view : View
blank_view = record { states = []; rests = []; post = [] }

abbrev pub added : View → Turn → View
added s t = record { states = s.states ++ t.state ∷ []; rests = s.rests ++ t.rests ∷ []; post = s.post ++ t.sent }

-- what a place is given, out of all letters
abbrev pub input_from : (r v : ℕ) → List ℕ → List Letter → Input
input_from r v state post = record { round = r; place = v; state = state; letters = letters_for v post }

-- no state is longer than a state may be
abbrev pub Capped : List (List ℕ) → Type 0
Capped ss = (k : ℕ) → length (slice_index_or ss k []) ≤ state_cap
