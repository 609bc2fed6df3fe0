-- The theorem of `never_unready`.
-- Assumes nothing.
use Rattle.runs.proofs.InPace.{never_unready}
use Rattle.runs.proofs.laws.never_unready.Goals as goal

pub returns : goal.returns
returns c = never_unready
