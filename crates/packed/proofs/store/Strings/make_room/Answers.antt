use Rattle.std.proofs.Common.{◌≡◌, ◌-◌, get_or, length, take, is_ok, vec_items, sym, ap, ◌∙◌, arith}
use Rattle.packed.proofs.Packing.{grown_front, strings_same}
use Rattle.packed.proofs.store.Strings.make_room.Goals as goal

pub returns-clause-items : goal.returns-clause-items
returns-clause-items c =
    let s = c.args.self.now in
    let last : get_or (vec_items s.cuts) (length (vec_items s.cuts) - 1) 0 ≡ c.used-used.result = ap (λ n. get_or (vec_items s.cuts) (n - 1) 0) (sym s.cuts.ok.0) ∙ sym c.used-used.ensures.value in
    let kept = c.reserve_exact.ensures.items in
    strings_same (vec_items s.cuts) (vec_items s.pool) (vec_items c.resize.new.self) s.rises
    (grown_front (is_ok c.resize.result) (vec_items c.reserve_exact.new.self) (vec_items c.resize.new.self) _ c.max-wanted.result _ c.resize.ensures.items
    (omega (arith, c.max-wanted.ensures))
    (omega (arith, last, c.used-used.ensures.within, s.pool.ok.0, ap length kept))
    ∙ ap (take _) kept)
