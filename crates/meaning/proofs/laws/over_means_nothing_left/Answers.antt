use Rattle.meaning.proofs.Ending.{not_while_awake}
use Rattle.meaning.proofs.laws.over_means_nothing_left.Goals as goal

pub returns-clause-awake : goal.returns-clause-awake
returns-clause-awake c = not_while_awake
