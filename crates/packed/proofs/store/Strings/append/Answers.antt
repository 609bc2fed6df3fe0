use Rattle.std.proofs.Common.{◌≡◌, ℕ, ◌+◌, ◌-◌, List, length, get_or, take, vec_items, ap, ◌∙◌, subst, arith}
use Rattle.std.specs.Vec.{with_items}
use Rattle.std.specs.List.{between}
use Rattle.std.proofs.lemmas.List.{with_items_is}
use Rattle.packed.specs.Cut.{strings}
use Rattle.packed.proofs.Packing.{strings_push}
use Rattle.packed.proofs.store.Strings.append.Goals as goal

pub returns-clause-items : goal.returns-clause-items
returns-clause-items c =
    let s = c.args.self.now in
    let cuts : List ℕ = vec_items s.cuts in
    let pool : List ℕ = vec_items s.pool in
    let start : ℕ = c.used-start.result in
    let e : ℕ = start + length c.args.s.now in
    let new : List ℕ = vec_items (with_items s.pool c.write.new.pool) in
    let last : start ≡ get_or cuts (length cuts - 1) 0 = c.used-start.ensures.value ∙ ap (λ n. get_or cuts (n - 1) 0) s.cuts.ok.0 in
    let new_is : new ≡ c.write.new.pool = with_items_is s.pool c.write.new.pool (omega (arith, c.write.auto.pool, c.as_mut_slice.ensures.len)) in
    ap (λ l. strings l new) c.push_reserved.ensures.items
    ∙ strings_push cuts pool new c.args.s.now e (omega (arith, s.some, s.cuts.ok.0)) s.rises
    (subst (λ n. take n new ≡ take n pool) last (ap (take start) new_is ∙ c.write.ensures.before ∙ ap (take start) c.as_mut_slice.ensures.value))
    (subst (λ n. between n e new ≡ c.args.s.now) last (ap (between start e) new_is ∙ c.write.ensures.here))
