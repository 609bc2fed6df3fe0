use Rattle.std.proofs.Common.{◌≡◌, ◌++◌, vec_items}
use Rattle.std.specs.List.{flat_map}
use Rattle.script.specs.Lines.{lines_in, lines_left}
use Rattle.crew_script.specs.Given.{unsaid}
use Rattle.crew_script.specs.Script.{events_of, faults_from, stretches_of}
use Rattle.crew_script.proofs.Propriety.{said_all}
use Rattle.crew_script.proofs.reader.read.Given as goal

abbrev pub invariant-loop-position : goal.invariant-loop-position
invariant-loop-position l =
    (vec_items l.complaints ++ faults_from l.all l.given (lines_left l.position-iterator) ≡ faults_from l.all unsaid (lines_in l.text))
    × (vec_items l.stretches ++ flat_map stretches_of (said_all (lines_left l.position-iterator)) ≡ flat_map stretches_of (said_all (lines_in l.text)))
    × (vec_items l.events ++ flat_map events_of (said_all (lines_left l.position-iterator)) ≡ flat_map events_of (said_all (lines_in l.text)))
