-- The theorem of `as_if_one`.
-- Assumes nothing.
use Rattle.runs.proofs.Truth.{as_if_one}
use Rattle.runs.proofs.laws.as_if_one.Goals as goal

pub returns : goal.returns
returns c = as_if_one
