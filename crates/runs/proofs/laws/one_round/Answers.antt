-- The theorem of `one_round`.
-- Assumes nothing.
use Rattle.runs.proofs.InPace.{one_round_lem}
use Rattle.runs.proofs.laws.one_round.Goals as goal

pub returns : goal.returns
returns c = one_round_lem
