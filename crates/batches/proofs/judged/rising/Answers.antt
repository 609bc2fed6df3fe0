use Rattle.std.proofs.Common.{rules}
use borrow.Author.Tests.{tests}
use Rattle.std.proofs.lemmas.Iterator.Consumers.{YieldsList-from_first}
use Rattle.meaning.specs.Left.{letters_left}
use Rattle.meaning.specs.Packets.{letters_of, received_of}
use Rattle.batches.proofs.Judging.{neighbours}
use Rattle.batches.proofs.Looking.{Steps}
use Rattle.batches.proofs.judged.rising.Goals as goal

pub returns : goal.returns
returns c =
    let ls = letters_of c.args.letters.now in
    neighbours Steps received_of _ _ (λ x y b q k. search (rules, tests)) c.is_sorted_by.result c.iter.result ls (YieldsList-from_first received_of letters_left {s = c.iter.result} ls c.iter.ensures).runs c.is_sorted_by.ensures.ran
