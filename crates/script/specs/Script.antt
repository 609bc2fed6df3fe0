-- What a script comes to: its lines taken in order, and what is missing at the end.
-- Assumes nothing.
use Rattle.std.specs.Prelude.{ℕ, List, [], ◌∷◌, ◌++◌, Some}
use Rattle.script.specs.declared.settings.Script.{Script}
use Rattle.script.specs.declared.complaints.Expected.{Expected}
use Rattle.script.specs.declared.complaints.Expected.TheVariants.{PlacesLine, PlanLine, AloneLine}
use Rattle.script.specs.declared.complaints.Complaint.{Complaint}
use Rattle.script.specs.declared.lines.Position.{Position}
use Rattle.script.specs.declared.given.Given.{Given}
use Rattle.script.specs.Given.{added_to, fault_of, settings_in, unsaid}
use Rattle.script.specs.Lines.{lines_in}
use Rattle.script.specs.Reading.{Outcome, lacking, noted, outcome}
use Rattle.script.specs.Saying.{said_in}

-- what is given after these lines
abbrev pub given_by : Given → List (Position × List ℕ) → Given
given_by g [] = g
given_by g (l ∷ ls) = given_by (added_to g (said_in l.1)) ls

-- the complaints on these lines
abbrev pub faults_from : Given → List (Position × List ℕ) → List (Complaint Expected)
faults_from g [] = []
faults_from g (l ∷ ls) = noted (Some l.0) (fault_of g (said_in l.1)) ++ faults_from (added_to g (said_in l.1)) ls

-- the statements that no line gave
abbrev pub missing : Given → List (Complaint Expected)
missing g = lacking g.places PlacesLine ++ (lacking g.plan PlanLine ++ lacking g.alone AloneLine)

unfoldable pub outcome_of : List ℕ → Outcome Script Expected
outcome_of text =
    outcome (settings_in (given_by unsaid (lines_in text)))
    (faults_from unsaid (lines_in text) ++ missing (given_by unsaid (lines_in text)))
