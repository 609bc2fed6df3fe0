use Rattle.std.proofs.Common.{◌≡◌, ℕ, ◌-◌, List, length, get_or, take, vec_items, sym, ap, ◌∙◌, arith, le_refl}
use Rattle.std.proofs.lemmas.List.{take-take}
use Rattle.packed.specs.Cut.{strings}
use Rattle.packed.proofs.Packing.{strings_same}
use Rattle.packed.proofs.store.impls.StringsClone.clone.Goals as goal

pub returns : goal.returns
returns c =
    let s = c.args.self.now in
    let cuts : List ℕ = vec_items s.cuts in
    let pool : List ℕ = vec_items s.pool in
    let n : ℕ = c.used.result in
    let new : List ℕ = vec_items c.in_ok-pool.pool in
    let last : get_or cuts (length cuts - 1) 0 ≡ n = ap (λ k. get_or cuts (k - 1) 0) (sym s.cuts.ok.0) ∙ sym c.used.ensures.value in
    let new_is : new ≡ take n pool = c.in_ok-pool.ensures.items ∙ ap (take n) c.as_slice-2.ensures.value in
    let cuts_is : vec_items c.in_ok-cuts.cuts ≡ cuts = c.in_ok-cuts.ensures.items ∙ c.as_slice.ensures.value in
    record {
      cases = (
        ap (λ l. strings l new) cuts_is
            ∙ strings_same cuts pool new s.rises (ap (λ k. take k new) last ∙ ap (take n) new_is ∙ take-take n n pool (le_refl n) ∙ ap (λ k. take k pool) (sym last)),
        omega (arith, c.in_ok-pool.ensures.len, last, ap (λ l. get_or l (length l - 1) 0) cuts_is, ap (λ k. get_or (vec_items c.in_ok-cuts.cuts) (k - 1) 0) c.in_ok-cuts.cuts.ok.0),
      );
    }
