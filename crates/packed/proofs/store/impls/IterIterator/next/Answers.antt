use Rattle.std.proofs.Common.{vec_items, arith}
use Rattle.packed.proofs.Packing.{length_strings}
use Rattle.packed.proofs.store.impls.IterIterator.next.Goals as goal

pub overflow_add-self : goal.overflow_add-self
overflow_add-self c =
    let s = c.args.self.now.strings.now in
    omega (arith, c.in_ok-string.ensures, length_strings (vec_items s.cuts) (vec_items s.pool), s.cuts.ok)
