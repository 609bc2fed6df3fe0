-- The theorem of `over_is_over`.
-- Assumes nothing.
use Rattle.runs.proofs.Truth.{over_is_over}
use Rattle.runs.proofs.laws.over_is_over.Goals as goal

pub returns : goal.returns
returns c = over_is_over
