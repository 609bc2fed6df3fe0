use Rattle.std.proofs.Common.{◌≡◌, length, vec_items, ap, ◌∙◌, rules}
use Rattle.std.specs.List.{range_with_len}
use Rattle.std.proofs.lemmas.List.FromFn.{length-map-range_with_len}
use Rattle.packed.specs.Strings.{items}
use Rattle.meaning.specs.Mail.{Post}
use Rattle.meaning.specs.Meaning.{View, round, turn_at, seen}
use Rattle.rounds.specs.Sight.{world_of}
use Rattle.rounds.specs.Turns.{turns_of, view_of_turns}
use Rattle.rounds.specs.Work.{worked_of}
use Rattle.rounds.specs.Run.{view_of}
use Rattle.rounds.specs.declared.standing.Standing.{Standing}
use Rattle.rounds.proofs.Turns.{all_turns}
use Rattle.rounds.proofs.Yielding.{all_places}
use Rattle.rounds.proofs.alone.Alone.step.Goals as goal

pub invariant_of-self-2 : goal.invariant_of-self-2
invariant_of-self-2 g c =
    let s = c.args.self.now in
    let n = s.places in
    let v = view_of s in
    let q = g.P.Plan.program c.args.plan.now in
    let r = s.round.0 in
    let next : worked_of c.work.new.self ≡ seen n (round n q r (world_of v)) =
    c.in_ok-work.ensures.worked (range_with_len 0 n) (all_places _ _ n c.map-places.ensures.source c.map-places.ensures.closure (λ x y f k. search rules))
    ∙ (λ i. view_of_turns (turns_of (s.beside i) q r v.post (range_with_len 0 n) v.states v.rests))
    ∙ all_turns n q r v (s.standing.even ∙ s.known) s.known in
    record {
      few = s.few;
      known = ap (λ (t : Standing). length (vec_items t.rests)) c.swap.ensures.x_after ∙ ap (λ (x : View). length x.rests) next ∙ length-map-range_with_len (λ k. (turn_at n q r (world_of v) k).rests) 0 n;
      beside = ap (λ (p : Post). p.places) c.in_ok-receive.ensures.left ∙ c.in_ok-work.ensures.places ∙ s.beside;
    }

pub returns-clause-leads : goal.returns-clause-leads
returns-clause-leads g c =
    let s = c.args.self.now in
    let n = s.places in
    let v = view_of s in
    let q = g.P.Plan.program c.args.plan.now in
    let r = s.round.0 in
    let next : worked_of c.work.new.self ≡ seen n (round n q r (world_of v)) =
    c.in_ok-work.ensures.worked (range_with_len 0 n) (all_places _ _ n c.map-places.ensures.source c.map-places.ensures.closure (λ x y f k. search rules))
    ∙ (λ i. view_of_turns (turns_of (s.beside i) q r v.post (range_with_len 0 n) v.states v.rests))
    ∙ all_turns n q r v (s.standing.even ∙ s.known) s.known in
    (λ i. record { states = items (c.swap.ensures.x_after i).states; rests = vec_items (c.swap.ensures.x_after i).rests; post = c.in_ok-receive.ensures.took i }) ∙ next
