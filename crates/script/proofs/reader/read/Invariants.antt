use Rattle.std.proofs.Common.{◌≡◌, ◌++◌, vec_items}
use Rattle.script.specs.Given.{unsaid}
use Rattle.script.specs.Lines.{lines_in, lines_left}
use Rattle.script.specs.Script.{faults_from, given_by}
use Rattle.script.proofs.reader.read.Given as goal

abbrev pub invariant-loop-position : goal.invariant-loop-position
invariant-loop-position l =
    (given_by l.given (lines_left l.position-iterator) ≡ given_by unsaid (lines_in l.text))
    × (vec_items l.complaints ++ faults_from l.given (lines_left l.position-iterator) ≡ faults_from unsaid (lines_in l.text))
