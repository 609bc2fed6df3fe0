use Rattle.std.proofs.Common.{vec_items, refl, ◌∙◌, sym}
use Rattle.std.proofs.lemmas.Option.{none-some}
use Rattle.std.specs.Option.{option_map}
use Rattle.crew.specs.Paced.{foreman_of}
use Rattle.crew.specs.Stored.{notes_of, parcels_of}
use Rattle.world.proofs.Seating.{new_seated, new_seats}
use Rattle.world.proofs.state.State.new.Goals as goal

pub invariant_of-result : goal.invariant_of-result
invariant_of-result c =
    let seats = c.in_ok-seats.ensures in
    record { many = seats.0 ∙ c.workers.ensures; seated = new_seated c.args.table (vec_items c.in_ok-seats.seats) seats.1; headed = λ x e. absurd (none-some x (sym c.new.ensures.down ∙ e)) }

pub returns : goal.returns
returns c =
    let desk = c.new.ensures in (
      refl,
      λ k. record {
        worker = new_seats (vec_items c.in_ok-seats.seats) c.in_ok-seats.ensures.1 k;
        foreman = record { up = option_map foreman_of (desk.down k); journal = notes_of (desk.journal k) };
        underway = parcels_of (c.new-2.ensures.items k);
      },
    )
