use Rattle.std.proofs.Common.{eqb, sym, ap, ◌∙◌, arith}
use Rattle.std.proofs.lemmas.Bool.{le-ltb}
use Rattle.std.proofs.lemmas.Nat.Bits.{bit_at_above}
use Rattle.crew.proofs.foreman.ready.Workers.has.Goals as goal

pub returns-else-line-lt-WORKERS : goal.returns-else-line-lt-WORKERS
returns-else-line-lt-WORKERS c = le-ltb c.args.line.0 64 c.if-line-lt-WORKERS.false ∙ sym (ap (λ d. eqb d 1) (bit_at_above c.args.self.0 64 c.args.line.0 (omega arith) c.if-line-lt-WORKERS.false))
