-- Which texts are good scripts, with no word of how they are read.
-- Assumes nothing.
use Rattle.std.specs.Prelude.{◌≡◌, ℕ, ◌<◌, true, List, [], ◌∷◌, map, Ok, Result}
use Rattle.std.specs.List.{flat_map}
use Rattle.script.specs.declared.complaints.Expected as script_expected
use Rattle.script.specs.declared.settings.Choice.{Choice}
use Rattle.script.specs.declared.statements.Statement as script_statement
use Rattle.script.specs.declared.statements.Statement.TheVariants.{Nothing}
use Rattle.script.specs.Proper as script
use Rattle.script.specs.Reading.{Outcome, good}
use Rattle.crew_script.specs.declared.settings.Span.{Span}
use Rattle.crew_script.specs.declared.settings.Event.{Event}
use Rattle.crew_script.specs.declared.complaints.Expected.{Expected}
use Rattle.crew_script.specs.declared.statements.Statement.{Statement}
use Rattle.crew_script.specs.declared.statements.Statement.TheVariants.{Lone, Workers, Owner, Happens}
use Rattle.crew_script.specs.Asked.{Asked, Players, lone, crew}
use Rattle.crew_script.specs.Given.{there}
use Rattle.crew_script.specs.Script.{statements_of}

-- what a line says without crews
abbrev pub lone_in : Statement → script_statement.Statement
lone_in (Lone st) = st
lone_in (Workers m) = Nothing
lone_in (Owner x) = Nothing
lone_in (Happens e) = Nothing

-- what follows each first word, in a line that begins with it
abbrev pub places_in : Statement → List (Result ℕ script_expected.Expected)
places_in st = script.places_in (lone_in st)

abbrev pub plans_in : Statement → List (Result Choice script_expected.Expected)
plans_in st = script.plans_in (lone_in st)

abbrev pub alones_in : Statement → List (Result ℕ script_expected.Expected)
alones_in st = script.alones_in (lone_in st)

abbrev pub workers_in : Statement → List (Result ℕ Expected)
workers_in (Lone st) = []
workers_in (Workers m) = m ∷ []
workers_in (Owner x) = []
workers_in (Happens e) = []

abbrev pub owners_in : Statement → List (Result Span Expected)
owners_in (Lone st) = []
owners_in (Workers m) = []
owners_in (Owner x) = x ∷ []
owners_in (Happens e) = []

abbrev pub happens_in : Statement → List (Result Event Expected)
happens_in (Lone st) = []
happens_in (Workers m) = []
happens_in (Owner x) = []
happens_in (Happens e) = e ∷ []

-- no line begins with another word
abbrev pub Known : List Statement → Type 0
Known [] = Unit {0}
Known (st ∷ ss) = script.IsKnown (lone_in st) × Known ss

-- stretches above place f that rise, of places and workers that are there
abbrev pub Rising : (places workers f : ℕ) → List Span → Type 0
Rising n m f [] = Unit {0}
Rising n m f (x ∷ xs) = (f < x.first) × (x.first < n) × (x.worker < m) × Rising n m x.first xs

-- none, or such from place 0 on
abbrev pub Shared : (places workers : ℕ) → List Span → Type 0
Shared n m [] = Unit {0}
Shared n m (x ∷ xs) = (x.first ≡ 0) × (x.first < n) × (x.worker < m) × Rising n m x.first xs

-- every machine that is named is there
abbrev pub AllThere : (workers : ℕ) → List Event → Type 0
AllThere m [] = Unit {0}
AllThere m (e ∷ es) = (there m e ≡ true) × AllThere m es

-- one `alone` and nothing of a crew; or one `workers` and no `alone`, with stretches and events as they should be
abbrev pub Cast : List Statement → (places : ℕ) → Players → Type 0
Cast ss n (lone r) = (flat_map alones_in ss ≡ Ok r ∷ []) × (flat_map workers_in ss ≡ []) × (flat_map owners_in ss ≡ []) × (flat_map happens_in ss ≡ [])
Cast ss n (crew m xs es) =
    (flat_map alones_in ss ≡ []) × (flat_map workers_in ss ≡ Ok m ∷ [])
    × (flat_map owners_in ss ≡ map (λ x. Ok x) xs) × Shared n m xs
    × (flat_map happens_in ss ≡ map (λ e. Ok e) es) × AllThere m es

-- one `places`, one `plan` and one run, with what is asked for, in any order, and no other line
pub record Proper (ss : List Statement) (s : Asked) : Type 0 where
  pub places : flat_map places_in ss ≡ Ok s.places ∷ []
  pub plan : flat_map plans_in ss ≡ Ok s.plan ∷ []
  pub run : Cast ss s.places s.run
  pub known : Known ss

-- good with what it asks for and nothing else
abbrev pub Judged : List ℕ → Outcome Asked Expected → Type 0
Judged text o = (s : Asked) → (o ≡ good s → Proper (statements_of text) s) × (Proper (statements_of text) s → o ≡ good s)
