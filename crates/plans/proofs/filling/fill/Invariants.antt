use Rattle.std.proofs.Common.{◌≡◌, ◌*◌, take}
use Rattle.plans.specs.Scramble.{repeated}
use Rattle.plans.proofs.filling.fill.Given as goal

abbrev pub invariant-loop-i : goal.invariant-loop-i
invariant-loop-i l = take (l.i * 8) l.buffer ≡ repeated l.word (l.i * 8)
