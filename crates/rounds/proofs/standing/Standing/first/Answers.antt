use Rattle.std.proofs.Common.{false, map, ap, ◌∙◌}
use Rattle.std.proofs.lemmas.Iterator.{YieldsList}
use Rattle.rounds.specs.Yielding.{number}
use Rattle.rounds.proofs.Yielding.{all_taken}
use Rattle.rounds.proofs.standing.Standing.first.Goals as goal

pub returns-clause-states : goal.returns-clause-states
returns-clause-states g c = λ vs yields.
    let road : YieldsList g.I.Iterator.next_gives number c.args.places vs = record { runs = yields.always } in
    c.loop-place.invariant.0 ∙ ap (map (g.P.Plan.program c.args.plan.now).first) (all_taken road c.loop-place.yielded c.into_iter-place-iterator.result c.loop-place.place-iterator c.next.new.self c.into_iter-place-iterator.ensures.into_iter_gives c.loop-place.yielded_by c.in-None.ensures.steps)

pub returns-clause-rests : goal.returns-clause-rests
returns-clause-rests g c = λ vs yields.
    let road : YieldsList g.I.Iterator.next_gives number c.args.places vs = record { runs = yields.always } in
    c.loop-place.invariant.1 ∙ ap (map (λ _. false)) (all_taken road c.loop-place.yielded c.into_iter-place-iterator.result c.loop-place.place-iterator c.next.new.self c.into_iter-place-iterator.ensures.into_iter_gives c.loop-place.yielded_by c.in-None.ensures.steps)
