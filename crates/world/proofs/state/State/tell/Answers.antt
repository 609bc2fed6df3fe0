use Rattle.std.proofs.Common.{◌<◌, length, vec_items, sym, refl, ap, ◌∙◌, subst, arith}
use Rattle.std.proofs.lemmas.Result.{IfOk-weaker}
use Rattle.crew.specs.Shared.{job_of}
use Rattle.crew.specs.Stored.{parcels_of}
use Rattle.world.specs.Calls.{call_of}
use Rattle.world.specs.Seated.{Seat, Sits}
use Rattle.world.proofs.Seating.{at_seat, seated_set}
use Rattle.world.proofs.Staging.{at_worker, worker_told}
use Rattle.world.proofs.state.State.tell.Goals as goal

pub call-requires-in-Some : goal.call-requires-in-Some
call-requires-in-Some g c =
    let s = c.args.self.now in
    let xs = vec_items s.seats in
    let x = c.in-Some.seat.now in
    let lt : c.args.line.0 < length xs = omega (arith, s.seats.ok.0, c.in-Some.ensures.variant.0 refl) in
    subst (Sits s.table c.args.line.0) (at_seat xs c.args.line.0 x lt ∙ ap (λ (z : Seat). z.up) (sym c.in-Some.ensures.value)) (s.seated c.args.line.0)

pub invariant_of-self-in-Some : goal.invariant_of-self-in-Some
invariant_of-self-in-Some g c =
    let s = c.args.self.now in
    let xs = vec_items s.seats in
    let lt : c.args.line.0 < length xs = omega (arith, s.seats.ok.0, c.in-Some.ensures.variant.0 refl) in
    record { many = s.many; seated = seated_set s.table xs c.args.line.0 c.call-in-Some.new.self lt s.seated c.call-in-Some.ensures.sits; headed = s.headed }

pub returns-in-Some : goal.returns-in-Some
returns-in-Some g c =
    let s = c.args.self.now in
    let i = c.args.line.0 in
    let b = job_of s.table (g.P.Plan.program c.args.setting.now.plan.now) in
    let lt : i < length (vec_items s.seats) = omega (arith, s.seats.ok.0, c.in-Some.ensures.variant.0 refl) in
    let below : i < s.table.workers = omega (arith, s.many, c.in-Some.ensures.variant.0 refl) in
    IfOk-weaker c.call-in-Some.result _ _
    (λ says did. record {
      table = refl;
      underway = refl;
      crew = λ ps. worker_told b (call_of c.args.call) s i c.in-Some.seat.now c.call-in-Some.new.self ps (parcels_of (vec_items says)) lt c.in-Some.ensures.value did ∙ at_worker i s.table.workers _ _ _ c.if-eq.ensures below;
    })
    c.call-in-Some.ensures.did
