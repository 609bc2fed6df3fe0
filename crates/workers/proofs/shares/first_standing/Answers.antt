use Rattle.std.proofs.Common.{map}
use Rattle.std.proofs.lemmas.Result.{IfOk-weaker}
use Rattle.rounds.specs.Yielding.{number}
use Rattle.workers.proofs.Placing.{copied_places}
use Rattle.workers.proofs.shares.first_standing.Goals as goal

pub returns-clause-states : goal.returns-clause-states
returns-clause-states g c = IfOk-weaker c.first.result _ _ (λ s h. h (map number c.args.mine.now) (copied_places c.copied.result c.args.mine.now cc)) c.first.ensures.states

pub returns-clause-rests : goal.returns-clause-rests
returns-clause-rests g c = IfOk-weaker c.first.result _ _ (λ s h. h (map number c.args.mine.now) (copied_places c.copied.result c.args.mine.now cc)) c.first.ensures.rests
