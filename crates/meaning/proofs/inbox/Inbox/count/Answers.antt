use Rattle.std.proofs.Common.{length, vec_items, sym, ap, ◌∙◌}
use Rattle.packed.specs.Strings.{items}
use Rattle.meaning.proofs.Finding.{length_letters}
use Rattle.meaning.proofs.inbox.Inbox.count.Goals as goal

pub returns : goal.returns
returns c =
    let l = c.args.self.now.letters in
    ap length c.part.ensures ∙ sym (length_letters c.args.place.0 (vec_items l.heads) (items l.bodies) l.even)
