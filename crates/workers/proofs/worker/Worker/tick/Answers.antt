use Rattle.std.proofs.Common.{vec_items, refl, ap, ◌∙◌}
use Rattle.crew.specs.Stored.{parcels_of, records_of}
use Rattle.workers.proofs.worker.Worker.tick.Goals as goal

pub returns : goal.returns
returns c q =
    let a = c.saying.ensures in
    record {
      state = refl;
      appends = ap records_of a.appends;
      says = ap (λ v. parcels_of (vec_items v)) a.says ∙ c.in_ok-says.ensures q;
      outcome = a.outcome;
    }
