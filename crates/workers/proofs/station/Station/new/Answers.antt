use Rattle.std.proofs.Common.{◌≡◌, ℕ, Bool, eqb, map, filter, vec_items, rules, refl, ap, ◌∙◌, arith}
use borrow.Author.Tests.{tests}
use Rattle.std.specs.List.{range_with_len}
use Rattle.std.proofs.lemmas.Iterator.{YieldsList-from_range, YieldsList-from_map, items_from_collect}
use Rattle.std.proofs.lemmas.Iterator.Consumers.{YieldsList-at, YieldsList-from_filter}
use Rattle.std.proofs.lemmas.Result.{IfOk-at_ok}
use Rattle.meaning.specs.declared.numbers.Place.{Place}
use Rattle.crew.specs.Shared.{owner_of}
use Rattle.rounds.specs.Yielding.{number}
use Rattle.workers.proofs.Placing.{placed_at, numbers_kept}
use Rattle.workers.proofs.station.Station.new.Goals as goal

pub returns : goal.returns
returns c =
    let n = c.args.table.places in
    let p : ℕ → Bool = λ v. eqb c.args.me.0 (owner_of c.args.table v) in
    let made : vec_items c.in_ok-mine.mine ≡ filter (λ (x : Place). p x.0) (map placed_at (range_with_len 0 n)) =
    IfOk-at_ok _ c.in_ok-mine.was
    (items_from_collect c.collect.result c.collect.ensures.ran
    (YieldsList-from_filter _ (λ (x : Place). p x.0)
    (YieldsList-at c.filter.ensures.source (YieldsList-from_map _ placed_at (YieldsList-from_range 0 n n (search rules) (omega arith)) c.map.ensures.closure (λ x r q k. search (rules, tests))))
    c.filter.ensures.closure (λ x b q k. search (rules, tests)))) in
    (refl, refl, ap (map number) made ∙ numbers_kept p (range_with_len 0 n))
