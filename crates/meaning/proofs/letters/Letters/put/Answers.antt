use Rattle.std.proofs.Common.{vec_items, ◌∙◌}
use Rattle.packed.specs.Strings.{items}
use Rattle.meaning.specs.Packets.{paired}
use Rattle.meaning.proofs.Pairs.{paired_push}
use Rattle.meaning.proofs.letters.Letters.put.Goals as goal

pub returns-clause-items : goal.returns-clause-items
returns-clause-items c =
    let s = c.args.self.now in
    (λ i. paired (c.push_reserved.ensures.items i) (c.if-not-put.ensures.items i)) ∙ paired_push (vec_items s.heads) (items s.bodies) c.args.head c.args.body.now s.even
