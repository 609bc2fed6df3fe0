use Rattle.std.proofs.Common.{eqb, ap, ◌∙◌}
use lib.Bits.{bit_and}
use Rattle.crew.proofs.Words.{all_bits}
use Rattle.crew.proofs.foreman.ready.Workers.has_all.Goals as goal

pub returns : goal.returns
returns c = ap (λ f. eqb (bit_and c.args.self.0 f) f) c.full-full.ensures ∙ all_bits c.args.self.0 c.args.count
