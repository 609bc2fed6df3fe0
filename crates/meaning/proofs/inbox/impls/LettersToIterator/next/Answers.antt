use Rattle.std.proofs.Common.{vec_items, arith}
use Rattle.packed.specs.Strings.{items}
use Rattle.meaning.proofs.Finding.{indices_few, length_letters}
use Rattle.meaning.proofs.inbox.impls.LettersToIterator.next.Goals as goal

pub overflow_add-self : goal.overflow_add-self
overflow_add-self c =
    let l = c.args.self.now.inbox.now.letters in
    let v = c.args.self.now.place.0 in
    let hs = vec_items l.heads in
    omega (arith, c.in_ok-letter.ensures, length_letters v hs (items l.bodies) l.even, indices_few v 0 hs, l.heads.ok)
