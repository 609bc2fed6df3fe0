-- The theorem of `not_empty`.
-- Assumes nothing.
use Rattle.runs.proofs.Touring.{not_empty}
use Rattle.runs.proofs.laws.not_empty.Goals as goal

pub returns : goal.returns
returns c = not_empty
