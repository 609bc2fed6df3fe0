use Rattle.meaning.proofs.Senders.{by_rising_senders}
use Rattle.meaning.proofs.laws.letters_come_by_rising_senders.Goals as goal

pub returns : goal.returns
returns c = by_rising_senders
