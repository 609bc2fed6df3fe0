-- The theorem of `comes_back`.
-- Assumes nothing.
use Rattle.runs.proofs.Back.{comes_back}
use Rattle.runs.proofs.laws.comes_back.Goals as goal

pub returns : goal.returns
returns c = comes_back
