use Rattle.std.proofs.Common.{◌<◌, length, vec_items, refl, ◌∙◌, arith}
use Rattle.world.proofs.Seating.{nobody_sits, seated_set}
use Rattle.world.proofs.Staging.{at_worker, worker_fell}
use Rattle.world.proofs.state.State.crash.Goals as goal

pub invariant_of-self-in-Some : goal.invariant_of-self-in-Some
invariant_of-self-in-Some c =
    let s = c.args.self.now in
    let xs = vec_items s.seats in
    let y = c.crash-in-Some.new.self in
    let lt : c.args.line.0 < length xs = omega (arith, s.seats.ok.0, c.in-Some.ensures.variant.0 refl) in
    record { many = s.many; seated = seated_set s.table xs c.args.line.0 y lt s.seated (nobody_sits s.table c.args.line.0 y.up c.crash-in-Some.ensures.down); headed = s.headed }

pub returns-in-Some : goal.returns-in-Some
returns-in-Some c =
    let s = c.args.self.now in
    let i = c.args.line.0 in
    let lt : i < length (vec_items s.seats) = omega (arith, s.seats.ok.0, c.in-Some.ensures.variant.0 refl) in
    let below : i < s.table.workers = omega (arith, s.many, c.in-Some.ensures.variant.0 refl) in
    let done = c.crash-in-Some.ensures in
    λ q. record { table = refl; crew = worker_fell s i c.in-Some.seat.now c.crash-in-Some.new.self lt c.in-Some.ensures.value done.down done.journal ∙ at_worker i s.table.workers _ _ _ c.if-eq.ensures below }
