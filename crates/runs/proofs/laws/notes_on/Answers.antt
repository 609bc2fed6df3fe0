-- The theorem of `notes_on`.
-- Assumes nothing.
use Rattle.runs.proofs.Noting.{notes_on}
use Rattle.runs.proofs.laws.notes_on.Goals as goal

pub returns : goal.returns
returns c = notes_on
