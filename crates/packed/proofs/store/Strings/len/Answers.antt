use Rattle.std.proofs.Common.{vec_items, arith}
use Rattle.packed.proofs.Packing.{length_strings}
use Rattle.packed.proofs.store.Strings.len.Goals as goal

pub returns : goal.returns
returns c =
    let s = c.args.self.now in
    omega (arith, length_strings (vec_items s.cuts) (vec_items s.pool), c.len.ensures, s.cuts.ok.0)
