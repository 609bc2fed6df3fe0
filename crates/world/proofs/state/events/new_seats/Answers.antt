use Rattle.std.proofs.Common.{◌≡◌, ℕ, ◌<◌, List, [], map, length, get_or, None, Option, vec_items, rules, sym, ap, ◌∙◌, arith}
use Rattle.std.specs.List.{All, range_with_len}
use Rattle.std.proofs.lemmas.Iterator.{YieldsList-from_range, YieldsList-from_map_by}
use Rattle.std.proofs.lemmas.Iterator.Consumers.{map_from_collect}
use Rattle.std.proofs.lemmas.List.{get_or-map, length-map}
use Rattle.std.proofs.lemmas.List.FromFn.{get_or-map-range_with_len, length-map-range_with_len}
use Rattle.std.proofs.lemmas.Result.{IfOk-weaker}
use Rattle.crew.specs.declared.journal.Record.{Record}
use Rattle.workers.specs.declared.worker.Worker.{Worker}
use Rattle.world.specs.Seated.{IsNew, Seat}
use Rattle.world.proofs.state.events.new_seats.Goals as goal

-- what a seat is and has written down
abbrev Had : Type 0
Had = Option Worker × List Record

abbrev had : Seat → Had
had s = (s.up, vec_items s.journal.records)

abbrev nothing : Had
nothing = (None, [])

new_length : (n : ℕ) (xs : List Seat) → map had xs ≡ map (λ (j : ℕ). nothing) (range_with_len 0 n) → length xs ≡ n
new_length n xs e = sym (length-map xs had) ∙ ap length e ∙ length-map-range_with_len (λ (j : ℕ). nothing) 0 n

all_new : (n : ℕ) (xs : List Seat) → map had xs ≡ map (λ (j : ℕ). nothing) (range_with_len 0 n) → All IsNew xs
all_new n xs e k d lt =
    let inside : k < n = omega (arith, lt, new_length n xs e) in
    let same : had (get_or xs k d) ≡ nothing = sym (get_or-map had xs k d nothing lt) ∙ ap (λ (ys : List Had). get_or ys k nothing) e ∙ get_or-map-range_with_len (λ (j : ℕ). nothing) 0 n k k nothing inside (omega arith) in
    ((λ i. (same i).0), (λ i. (same i).1))

pub returns : goal.returns
returns c =
    let n = c.args.workers in
    IfOk-weaker c.collect.result _ _
    (λ v h. (omega (arith, v.ok.0, new_length n (vec_items v) h), all_new n (vec_items v) h))
    (map_from_collect c.collect.result c.collect.ensures.ran
    (YieldsList-from_map_by _ had (λ (j : ℕ). nothing) (YieldsList-from_range 0 n n (cc) (omega arith)) c.map.ensures.closure
    (λ x r q k.
    let down : r.up ≡ None = search rules in
    let kept : vec_items r.journal.records ≡ [] = search rules in
    (search rules, λ i. (down i, kept i)))))
