use Rattle.plans.proofs.filling.again.Goals as goal
use Rattle.std.proofs.Common.{◌≡◌, ◌-◌, length, take, ap, ◌∙◌, arith}
use Rattle.plans.specs.Scramble.{repeated}
use Rattle.plans.specs.Repeating.{take_repeated}

pub returns : goal.returns
returns c =
    let count = c.args.count in
    let same : count - 0 ≡ count = omega arith in
    ap (take (count - 0)) c.fill.ensures
    ∙ take_repeated c.args.word (length c.args.buffer.now) (count - 0) (omega arith)
    ∙ ap (repeated c.args.word) same
