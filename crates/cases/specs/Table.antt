-- The table of cases, and that every row comes to what it expects.
-- Assumes nothing.
use Rattle.std.specs.Prelude.{ℕ, true, false, List, [], ◌∷◌}
use Rattle.std.specs.List.{AllByRecursion}
use Rattle.meaning.specs.Meaning.{Program}
use Rattle.plans.specs.Echo.{keeping}
use Rattle.plans.specs.Sum.{adding}
use Rattle.cases.specs.Rows.{Row, alone, Expected, state, letters, resting, over, Holds}

-- one machine has all
abbrev pub one : ℕ → ℕ
one v = 0

-- each place writes to place 3 and rests
abbrev pub astray : Program
astray = record { first = λ v. []; does = λ x. record { state = []; sends = record { to = 3; bytes = x.place ∷ [] } ∷ []; rests = true } }

abbrev pub three : Program → (done : ℕ) → List Expected → Row
three q k es = record { plan = q; places = 3; owner = one; happens = alone k; expects = es }

abbrev pub table : List Row
table =
    -- place 0 is written to by 0, 1 and 2, in that order, and adds up what came
    three (adding (record {})) 0 (state 0 (0 ∷ 0 ∷ 0 ∷ 0 ∷ []) ∷ letters 0 [] ∷ resting false ∷ over false ∷ [])
    ∷ three (adding (record {})) 1 (letters 0 (0 ∷ 1 ∷ 2 ∷ []) ∷ letters 1 [] ∷ resting true ∷ over false ∷ [])
    ∷ three (adding (record {})) 2 (state 0 (0 ∷ 0 ∷ 0 ∷ 3 ∷ []) ∷ letters 0 [] ∷ resting true ∷ over true ∷ [])
    -- a letter to place 3 of three is dropped, and does not delay the end
    ∷ three astray 1 (letters 3 [] ∷ resting true ∷ over true ∷ [])
    -- nobody sends and all rest in round 0: after one round it is over
    ∷ three (keeping (record {})) 0 (over false ∷ [])
    ∷ three (keeping (record {})) 1 (resting true ∷ over true ∷ [])
    ∷ []

abbrev pub EveryRowHolds : Type 0
EveryRowHolds = AllByRecursion Holds table
