use Rattle.std.proofs.Common.{◌-◌, length, vec_items, sym, arith}
use Rattle.meaning.proofs.Finding.{indices_none}
use Rattle.meaning.proofs.inbox.Inbox.part.Goals as goal

pub returns-then-v-len : goal.returns-then-v-len
returns-then-v-len c =
    let s = c.args.self.now in
    sym (indices_none (length (vec_items s.index.starts) - 1) c.args.place.0 0 (vec_items s.letters.heads) s.there (omega (arith, s.index.starts.ok.0)))
