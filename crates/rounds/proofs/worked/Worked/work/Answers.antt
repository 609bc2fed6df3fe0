use Rattle.std.proofs.Common.{◌≡◌, map, sym, ap, ◌∙◌}
use Rattle.std.specs.List.{zip}
use Rattle.std.proofs.lemmas.Iterator.{YieldsList, YieldsList-from_zip}
use Rattle.std.proofs.lemmas.Iterator.Consumers.{YieldsList-from_first}
use Rattle.meaning.specs.Mail.{received}
use Rattle.meaning.specs.Meaning.{turn}
use Rattle.meaning.specs.declared.numbers.Place.{Place}
use Rattle.rounds.specs.Sight.{added, input_from}
use Rattle.rounds.specs.Yielding.{number}
use Rattle.rounds.specs.Standing.{held_of, all_held, left_in}
use Rattle.rounds.specs.Turns.{turn_from, view_of_turns}
use Rattle.rounds.specs.Work.{places_of}
use Rattle.rounds.specs.declared.standing.Held.{Held}
use Rattle.rounds.proofs.Turns.{turn_more}
use Rattle.rounds.proofs.Yielding.{all_taken}
use Rattle.rounds.proofs.worked.Worked.work.Goals as goal

pub loop-place-preserved : goal.loop-place-preserved
loop-place-preserved g c =
    let q = g.P.Plan.program c.args.plan.now in
    let n = places_of c.args.self.now in
    let post = received c.args.inbox.now in
    let x : Place × Held = (c.in-Some.place, c.in-Some.held) in (
      c.in_ok-turn.ensures.places ∙ c.loop-place.invariant.0,
      c.in_ok-turn.ensures.added
          ∙ (λ i. added (c.loop-place.invariant.1 i) (turn (c.loop-place.invariant.0 i) q (input_from c.args.round.0 x.0.0 x.1.state.now post) x.1.rests))
          ∙ sym (turn_more (turn_from n q c.args.round.0 post) (λ y. (number y.0, held_of y.1)) c.loop-place.yielded x),
    )

pub returns-clause-worked : goal.returns-clause-worked
returns-clause-worked g c = λ vs yields.
    let q = g.P.Plan.program c.args.plan.now in
    let n = places_of c.args.self.now in
    let post = received c.args.inbox.now in
    let z = c.zip-place-items.result in
    let road : YieldsList g.I.Iterator.next_gives number z.a vs = record { runs = rw c.zip-place-items.ensures.first yields.always } in
    let both : map (λ y. (number y.0, held_of y.1)) c.loop-place.yielded ≡ zip vs (all_held c.args.standing.now) =
    all_taken (YieldsList-from_zip {s = z} road (YieldsList-from_first held_of left_in (all_held c.args.standing.now) (ap left_in c.zip-place-items.ensures.second ∙ c.iter.ensures))) c.loop-place.yielded c.into_iter-place-iterator.result c.loop-place.place-iterator c.next.new.self c.into_iter-place-iterator.ensures.into_iter_gives c.loop-place.yielded_by c.in-None.ensures.steps in
    c.loop-place.invariant.1 ∙ ap (λ l. view_of_turns (map (turn_from n q c.args.round.0 post) l)) both
