use Rattle.std.proofs.Common.{◌/◌, ◌%◌, ◌^◌, length, ap, arith}
use Rattle.plans.specs.Repeating.{length_repeated}
use Rattle.plans.proofs.scramble.send_letter.Goals as goal

pub send-requires-clause-short : goal.send-requires-clause-short
send-requires-clause-short c = omega (arith, ap length c.again-body.ensures, length_repeated c.args.word (c.args.word / 2 ^ 24 % 65))
