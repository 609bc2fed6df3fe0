-- The theorem of `goes_on`.
-- Assumes nothing.
use Rattle.runs.proofs.Going.{goes_on}
use Rattle.runs.proofs.laws.goes_on.Goals as goal

pub returns : goal.returns
returns c = goes_on
