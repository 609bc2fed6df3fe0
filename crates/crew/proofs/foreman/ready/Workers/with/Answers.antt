use Rattle.crew.proofs.Words.{set_bit}
use Rattle.crew.proofs.foreman.ready.Workers.with.Goals as goal

pub returns : goal.returns
returns c k = set_bit c.args.self.0 c.args.line.0 k c.requires
