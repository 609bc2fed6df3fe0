-- What places come to in a round: any of them, in any order.
-- Assumes nothing.
use Rattle.std.specs.Prelude.{ℕ, Bool, List, [], ◌∷◌, ◌++◌, map}
use Rattle.std.specs.List.{zip}
use Rattle.meaning.specs.Meaning.{Program, Letter, Turn, View, turn}
use Rattle.rounds.specs.Sight.{input_from}

-- the turn of place v, out of its state and rest and all letters
abbrev pub turn_from : (n : ℕ) → Program → (r : ℕ) → (post : List Letter) → ℕ × (List ℕ × Bool) → Turn
turn_from n q r post x = turn n q (input_from r x.0 x.1.0 post) x.1.1

-- the turns of the places vs, out of their states and rests
abbrev pub turns_of : (n : ℕ) → Program → (r : ℕ) → (post : List Letter) → (vs : List ℕ) → List (List ℕ) → List Bool → List Turn
turns_of n q r post vs ss bs = map (turn_from n q r post) (zip vs (zip ss bs))

abbrev pub sent_in : List Turn → List Letter
sent_in [] = []
sent_in (t ∷ ts) = t.sent ++ sent_in ts

-- what these turns leave: states and rests in the order of the turns, and what was sent
abbrev pub view_of_turns : List Turn → View
view_of_turns ts = record { states = map (λ (t : Turn). t.state) ts; rests = map (λ (t : Turn). t.rests) ts; post = sent_in ts }
