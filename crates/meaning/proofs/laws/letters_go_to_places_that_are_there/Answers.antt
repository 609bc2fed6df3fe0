use Rattle.meaning.proofs.Senders.{only_to_there}
use Rattle.meaning.proofs.laws.letters_go_to_places_that_are_there.Goals as goal

pub returns : goal.returns
returns c = only_to_there
