use Rattle.std.proofs.Common.{◌&&◌, Bool, ltb, rules, ◌∙◌}
use borrow.Author.Tests.{tests}
use Rattle.std.proofs.lemmas.Iterator.Consumers.{YieldsList-from_first}
use Rattle.std.proofs.lemmas.Iterator.Search.{all_from_yields_List}
use Rattle.meaning.specs.Left.{letters_left}
use Rattle.meaning.specs.Meaning.{Letter}
use Rattle.meaning.specs.Packets.{letters_of, received_of}
use Rattle.batches.proofs.Judging.{all_are}
use Rattle.batches.proofs.judged.are_named.Goals as goal

pub returns : goal.returns
returns c =
    let ls = letters_of c.args.letters.now in
    let test : Letter → Bool = λ l. ltb l.from c.args.places && ltb l.to c.args.places in
    all_from_yields_List test c.all.new.self _ c.all.result c.all.ensures.ran (YieldsList-from_first received_of letters_left ls c.iter.ensures) (λ x b q k. search (rules, tests)) ∙ all_are test ls
