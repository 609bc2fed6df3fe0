-- The theorem of `in_step`.
-- Assumes nothing.
use Rattle.runs.proofs.InPace.{in_step}
use Rattle.runs.proofs.laws.in_step.Goals as goal

pub returns : goal.returns
returns c = in_step
