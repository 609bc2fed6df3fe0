use Rattle.std.proofs.Common.{◌≡◌, ◌+◌, ◌*◌, ◌++◌, length, ap, ◌∙◌, arith}
use Rattle.std.proofs.lemmas.Slice.{take-put_mid}
use Rattle.plans.specs.Numbers.{be8}
use Rattle.plans.specs.Repeating.{repeated_more}
use Rattle.plans.proofs.filling.fill.Goals as goal

pub loop-i-preserved : goal.loop-i-preserved
loop-i-preserved c =
    let i = c.loop-i.i in
    let word = c.args.word in
    let part = c.copy_from_slice.new.self in
    let bytes : part ≡ be8 word = c.copy_from_slice.ensures.after ∙ c.to_be_bytes-bytes.ensures in
    take-put_mid (i * 8) _ c.loop-i.buffer part ((i + 1) * 8) (omega (arith, ap length bytes)) (omega arith)
    ∙ (λ t. c.loop-i.invariant t ++ bytes t)
    ∙ repeated_more word i
