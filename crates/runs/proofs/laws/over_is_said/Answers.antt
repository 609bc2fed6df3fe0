-- The theorem of `over_is_said`.
-- Assumes nothing.
use Rattle.runs.proofs.Going.{over_is_said}
use Rattle.runs.proofs.laws.over_is_said.Goals as goal

pub returns : goal.returns
returns c = over_is_said
