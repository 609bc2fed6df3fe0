use Rattle.std.proofs.Common.{vec_items, arith}
use Rattle.packed.specs.Strings.{items}
use Rattle.meaning.proofs.Pairs.{length_paired}
use Rattle.meaning.proofs.letters.Letters.len.Goals as goal

pub returns : goal.returns
returns c =
    let s = c.args.self.now in
    omega (arith, length_paired (vec_items s.heads) (items s.bodies) s.even, c.len.ensures, s.heads.ok.0)
