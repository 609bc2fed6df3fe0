use Rattle.rehearsal.specs.Blocks.{contents_of}
use Rattle.rehearsal.specs.Printed.{printed}
use Rattle.std.specs.Io.KnownBytes.{Appends}
use Rattle.rounds.specs.Run.{view_of}
use Rattle.rounds.specs.Sight.{world_of}
use Rattle.rehearsal.proofs.alone.show.Given as goal

abbrev pub invariant-loop-v : goal.invariant-loop-v
invariant-loop-v g l = Appends (g.W.Write.contents l.fn.out) (contents_of g.W.Write.contents l.out) (printed l.v l.all.round.0 (world_of (view_of l.all)))
