-- Which texts are good scripts, with no word of how they are read.
-- Assumes nothing.
use Rattle.std.specs.Prelude.{◌≡◌, ℕ, List, [], ◌∷◌, map, Ok, Result}
use Rattle.std.specs.List.{flat_map}
use Rattle.script.specs.declared.settings.Choice.{Choice}
use Rattle.script.specs.declared.settings.Script.{Script}
use Rattle.script.specs.declared.complaints.Expected.{Expected}
use Rattle.script.specs.declared.statements.Statement.{Statement}
use Rattle.script.specs.declared.statements.Statement.TheVariants.{Nothing, Unknown, Places, Plan, Alone}
use Rattle.script.specs.Text.{lines_of}
use Rattle.script.specs.Reading.{Outcome, good}
use Rattle.script.specs.Saying.{said_in}

-- what follows the word `places`, in a line that begins with it
abbrev pub places_in : Statement → List (Result ℕ Expected)
places_in Nothing = []
places_in Unknown = []
places_in (Places n) = n ∷ []
places_in (Plan p) = []
places_in (Alone n) = []

abbrev pub plans_in : Statement → List (Result Choice Expected)
plans_in Nothing = []
plans_in Unknown = []
plans_in (Places n) = []
plans_in (Plan p) = p ∷ []
plans_in (Alone n) = []

abbrev pub alones_in : Statement → List (Result ℕ Expected)
alones_in Nothing = []
alones_in Unknown = []
alones_in (Places n) = []
alones_in (Plan p) = []
alones_in (Alone n) = n ∷ []

-- the line begins with no other word
abbrev pub IsKnown : Statement → Type 0
IsKnown Nothing = Unit {0}
IsKnown Unknown = ⊥
IsKnown (Places n) = Unit {0}
IsKnown (Plan p) = Unit {0}
IsKnown (Alone n) = Unit {0}

-- no line begins with another word
abbrev pub Known : List Statement → Type 0
Known [] = Unit {0}
Known (st ∷ ss) = IsKnown st × Known ss

abbrev pub statements_of : List ℕ → List Statement
statements_of text = map said_in (lines_of text)

-- each of `places`, `plan` and `alone` once, with what is set, in any order, and nothing else
pub record Proper (ss : List Statement) (s : Script) : Type 0 where
  pub places : flat_map places_in ss ≡ Ok s.places ∷ []
  pub plan : flat_map plans_in ss ≡ Ok s.plan ∷ []
  pub alone : flat_map alones_in ss ≡ Ok s.rounds ∷ []
  pub known : Known ss

-- good with these settings and no others
abbrev pub Judged : List ℕ → Outcome Script Expected → Type 0
Judged text o = (s : Script) → (o ≡ good s → Proper (statements_of text) s) × (Proper (statements_of text) s → o ≡ good s)
