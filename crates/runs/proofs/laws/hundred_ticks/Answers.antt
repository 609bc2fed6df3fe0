-- The theorem of `hundred_ticks`.
-- Assumes nothing.
use Rattle.runs.proofs.Ticks.{hundred_ticks}
use Rattle.runs.proofs.laws.hundred_ticks.Goals as goal

pub returns : goal.returns
returns c = hundred_ticks
