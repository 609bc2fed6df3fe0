use Rattle.std.proofs.Common.{◌≡◌, refl, false, map, length, ap, ◌∙◌, vec_items, rules, arith}
use Rattle.std.specs.List.{range_with_len}
use Rattle.std.proofs.lemmas.List.FromFn.{length-map-range_with_len}
use Rattle.packed.specs.Strings.{items}
use Rattle.rounds.proofs.Yielding.{all_places}
use Rattle.rounds.proofs.Running.{start_is}
use Rattle.rounds.proofs.alone.runs.begin.Goals as goal

pub invariant_of-result : goal.invariant_of-result
invariant_of-result g c =
    let n = c.args.places in
    let rests : vec_items c.in_ok-first.field-0.rests ≡ map (λ v. false) (range_with_len 0 n) =
    c.in_ok-first.ensures.rests (range_with_len 0 n) (all_places _ _ n c.map.ensures.source c.map.ensures.closure (λ x r q k. search rules)) in
    record { few = omega arith; known = ap length rests ∙ length-map-range_with_len (λ v. false) 0 n; beside = c.in_ok-new-2.ensures.1 }

pub returns : goal.returns
returns g c =
    let n = c.args.places in
    let q = g.P.Plan.program c.args.plan.now in
    let states : items c.in_ok-first.field-0.states ≡ map q.first (range_with_len 0 n) =
    c.in_ok-first.ensures.states (range_with_len 0 n) (all_places _ _ n c.map.ensures.source c.map.ensures.closure (λ x r f k. search rules)) in
    let rests : vec_items c.in_ok-first.field-0.rests ≡ map (λ v. false) (range_with_len 0 n) =
    c.in_ok-first.ensures.rests (range_with_len 0 n) (all_places _ _ n c.map.ensures.source c.map.ensures.closure (λ x r f k. search rules)) in (
      omega arith,
      record {
        places = refl;
        view = (λ i. record { states = states i; rests = rests i; post = c.in_ok-new.ensures i }) ∙ start_is n q;
      },
      refl,
    )
