use Rattle.meaning.proofs.Ending.{over_stays}
use Rattle.meaning.proofs.laws.over_stays.Goals as goal

pub returns : goal.returns
returns c = over_stays
