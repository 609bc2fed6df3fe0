use Rattle.std.proofs.Common.{min, vec_items, deque_items, refl, ap, ◌∙◌}
use Rattle.world.specs.Paced.{desk_of}
use Rattle.world.specs.Seated.{seat_at}
use Rattle.world.proofs.Staging.{late_behind}
use Rattle.world.proofs.state.State.late.Goals as goal

pub returns : goal.returns
returns c =
    let s = c.args.self.now in
    let rest = c.pop_front.new.self in
    let place = c.min-behind.ensures ∙ ap (min c.args.k) (c.len.ensures ∙ rest.ok.0) in
    let late = late_behind (deque_items s.underway) (deque_items rest) (deque_items c.insert.new.self) c.in-Some.parcel c.args.k c.min-behind.result c.in-Some.ensures.items place c.in_ok-insert.ensures.items in
    record { table = refl; crew = λ k. record { worker = seat_at (vec_items s.seats); foreman = desk_of s.desk; underway = late k } }
