use Rattle.std.proofs.Common.{◌≡◌, None, arith, sym, subst}
use Rattle.std.specs.Iterator.{YieldsFirstBy}
use Rattle.meaning.specs.Left.{letters_left}
use Rattle.meaning.specs.Packets.{received_of}
use Rattle.meaning.proofs.Pairs.{paired_none}
use Rattle.meaning.proofs.letters.impls.IterIterator.next.Goals as goal

pub returns-in_err-bytes-clause-steps : goal.returns-in_err-bytes-clause-steps
returns-in_err-bytes-clause-steps c =
    let gone : c.from_residual.result ≡ None = grind arith in
    subst (λ r. YieldsFirstBy received_of letters_left c.args.self.now r (record { heads = c.args.self.now.heads; bodies = c.next.new.self })) (sym gone)
    (paired_none _ _ c.in_err-bytes.ensures.steps.0, paired_none _ _ c.in_err-bytes.ensures.steps.1)
