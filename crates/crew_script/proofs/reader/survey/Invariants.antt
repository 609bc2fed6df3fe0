use Rattle.std.proofs.Common.{◌≡◌}
use Rattle.script.specs.Lines.{lines_left}
use Rattle.crew_script.specs.Script.{all_of, given_by}
use Rattle.crew_script.proofs.reader.survey.Given as goal

abbrev pub invariant-loop-line : goal.invariant-loop-line
invariant-loop-line l = given_by l.given (lines_left l.line-iterator) ≡ all_of l.text
