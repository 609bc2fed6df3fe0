use Rattle.std.proofs.Common.{◌-◌, ◌<◌, length, vec_items, sym, ◌∙◌, arith}
use Rattle.packed.proofs.Packing.{length_strings, get_or_strings}
use Rattle.packed.specs.Cut.{string_at}
use Rattle.packed.proofs.store.Strings.get.Goals as goal

pub returns-then-k-len : goal.returns-then-k-len
returns-then-k-len c =
    let s = c.args.self.now in
    omega (arith, length_strings (vec_items s.cuts) (vec_items s.pool), s.cuts.ok.0)

pub returns : goal.returns
returns c =
    let s = c.args.self.now in
    let h : c.args.k < length (vec_items s.cuts) - 1 = omega (arith, s.cuts.ok.0) in (
      omega (arith, length_strings (vec_items s.cuts) (vec_items s.pool), s.cuts.ok.0),
      c.part.ensures
          ∙ (λ i. string_at (c.as_slice.ensures.value i) (c.as_slice-2.ensures.value i) c.args.k)
          ∙ sym (get_or_strings (vec_items s.cuts) (vec_items s.pool) c.args.k h),
    )
