-- What a script comes to: its lines taken in order, and what is missing at the end.
-- Assumes nothing.
use Rattle.std.specs.Prelude.{ℕ, ◌+◌, List, [], ◌∷◌, ◌++◌, map, length, Some, None, Ok, Err, Option, Result}
use Rattle.std.specs.List.{flat_map}
use Rattle.script.specs.declared.complaints.Complaint.{Complaint}
use Rattle.script.specs.declared.complaints.Expected.TheVariants.{PlacesLine, PlanLine}
use Rattle.script.specs.declared.lines.Position.{Position}
use Rattle.script.specs.Lines.{lines_in}
use Rattle.script.specs.Reading.{Outcome, lacking, noted, outcome}
use Rattle.script.specs.Text.{lines_of}
use Rattle.crew_script.specs.declared.complaints.Expected.{Expected}
use Rattle.crew_script.specs.declared.complaints.Expected.TheVariants.{Lone, RunLine}
use Rattle.crew_script.specs.declared.given.Given.{Given}
use Rattle.crew_script.specs.declared.settings.Span.{Span}
use Rattle.crew_script.specs.declared.settings.Event.{Event}
use Rattle.crew_script.specs.declared.statements.Statement.{Statement}
use Rattle.crew_script.specs.declared.statements.Statement.TheVariants as said
use Rattle.crew_script.specs.Asked.{Asked}
use Rattle.crew_script.specs.Given.{added_to, asked_by, fault_of, run_in, unsaid}
use Rattle.crew_script.specs.Saying.{said_in}

abbrev pub statements_of : List ℕ → List Statement
statements_of text = map said_in (lines_of text)

-- what is given after these lines
abbrev pub given_by : Given → List (Position × List ℕ) → Given
given_by g [] = g
given_by g (l ∷ ls) = given_by (added_to g (said_in l.1)) ls

abbrev pub all_of : List ℕ → Given
all_of text = given_by unsaid (lines_in text)

-- the complaints on these lines
abbrev pub faults_from : (all : Given) → Given → List (Position × List ℕ) → List (Complaint Expected)
faults_from all g [] = []
faults_from all g (l ∷ ls) = noted (Some l.0) (fault_of all g (said_in l.1)) ++ faults_from all (added_to g (said_in l.1)) ls

-- the statements that no line gave
abbrev pub missing : (all : Given) → List (Complaint Expected)
missing all = lacking all.lone.places (Lone PlacesLine) ++ (lacking all.lone.plan (Lone PlanLine) ++ lacking (run_in all) RunLine)

abbrev pub complaints_of : List ℕ → List (Complaint Expected)
complaints_of text = faults_from (all_of text) unsaid (lines_in text) ++ missing (all_of text)

abbrev pub listed : {X : Type 0} → Option X → List X
listed None = []
listed (Some x) = x ∷ []

abbrev pub good_of : {X E : Type 0} → Result X E → Option X
good_of (Ok x) = Some x
good_of (Err e) = None

-- the stretch or the event that a line says
abbrev pub stretch_in : Statement → Option Span
stretch_in (said.Lone st) = None
stretch_in (said.Workers m) = None
stretch_in (said.Owner x) = good_of x
stretch_in (said.Happens e) = None

abbrev pub event_in : Statement → Option Event
event_in (said.Lone st) = None
event_in (said.Workers m) = None
event_in (said.Owner x) = None
event_in (said.Happens e) = good_of e

abbrev pub stretches_of : Statement → List Span
stretches_of st = listed (stretch_in st)

abbrev pub events_of : Statement → List Event
events_of st = listed (event_in st)

unfoldable pub outcome_of : List ℕ → Outcome Asked Expected
outcome_of text = outcome (asked_by (all_of text) (flat_map stretches_of (statements_of text)) (flat_map events_of (statements_of text))) (complaints_of text)

-- what takes memory
abbrev pub weight_of : List ℕ → ℕ
weight_of text = length (complaints_of text) + (length (flat_map stretches_of (statements_of text)) + length (flat_map events_of (statements_of text)))
