use Rattle.std.proofs.Common.{◌≡◌, ℕ, ◌+◌, ◌-◌, ◌<◌, sym, ap, ◌∙◌, add-one, arith}
use Rattle.meaning.specs.Meaning.{Program, round, rounds, is_over, ends_from, seen}
use Rattle.rounds.specs.Sight.{world_of}
use Rattle.rounds.specs.Run.{view_of, Stands}
use Rattle.rounds.specs.declared.alone.Alone.{Alone}
use Rattle.rounds.proofs.Running.{steps, over_is, ends_here, ends_later, ends_now}
use Rattle.rounds.proofs.alone.runs.run.Goals as goal
use Rattle.rounds.proofs.alone.runs.run.Goals.{else-loop-test, then-loop-test+then-is_over}

-- whether the machine is over is whether its round is
over_at : (n : ℕ) (q : Program) (a : Alone) → Stands n q a → is_over a.places (world_of (view_of a)) ≡ is_over n (rounds n q a.round.0)
over_at n q a s = ap (λ k. is_over k (world_of (view_of a))) s.places ∙ over_is n q a.round.0 (view_of a) s.view

-- a step leads from where it stands to where it stands
stands_on : (n : ℕ) (q : Program) (a b : Alone) → Stands n q a → b.places ≡ a.places → b.round.0 ≡ a.round.0 + 1 → view_of b ≡ seen a.places (round a.places q a.round.0 (world_of (view_of a))) → Stands n q b
stands_on n q a b s places rounds-are view = record {
  places = places ∙ s.places;
  view = view ∙ ap (λ k. seen k (round k q a.round.0 (world_of (view_of a)))) s.places ∙ steps n q a.round.0 (view_of a) s.view ∙ ap (λ k. seen n (rounds n q k)) (sym (rounds-are ∙ add-one a.round.0));
}

pub loop-preserved : goal.loop-preserved
loop-preserved g c =
    let n = c.args.places in
    let q = g.P.Plan.program c.args.plan.now in
    let a = c.loop.all in
    let s = c.loop.invariant.1 in
    let more = c.in_ok-step.ensures in
    let left : 0 < c.args.budget.0 - c.loop.counter = omega arith in (
      c.loop.invariant.0,
      stands_on n q a c.step.new.self s more.places more.round more.leads,
      (λ i. ends_from n q (more.round i) ((let z : c.args.budget.0 - (c.loop.counter + 1) ≡ c.args.budget.0 - c.loop.counter - 1 = omega arith in z) i))
          ∙ sym (ends_later n q a.round.0 (c.args.budget.0 - c.loop.counter) left (sym (c.is_over.ensures ∙ over_at n q a s) ∙ c.if-is_over.false))
          ∙ c.loop.invariant.2,
      omega (arith, more.round, c.loop.invariant.3),
    )

pub returns : goal.returns
returns g c =
    let n = c.args.places in
    let q = g.P.Plan.program c.args.plan.now in
    let a = c.loop.all in
    let s = c.loop.invariant.1 in
    let left : ℕ = c.args.budget.0 - c.loop.counter in (
      c.loop.invariant.0,
      s,
      elim c.loop-test.branch [
        | else-loop-test w ↦ sym (ends_now n q a.round.0 left (omega (arith, w.loop-test.false))) ∙ c.loop.invariant.2
        | then-loop-test+then-is_over w ↦ sym (ends_here n q a.round.0 left (omega (arith, w.loop-test.true)) (sym (w.is_over.ensures ∙ over_at n q a s) ∙ w.if-is_over.true)) ∙ c.loop.invariant.2
      ],
    )
