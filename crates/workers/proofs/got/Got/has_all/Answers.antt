use Rattle.std.proofs.Common.{◌≤◌, is_some, length, None, Option, box_value, rules, ap, ◌∙◌, arith}
use Rattle.std.specs.List.{list_all}
use Rattle.std.proofs.lemmas.Iterator.{YieldsList-from_slice}
use Rattle.std.proofs.lemmas.Iterator.Search.{all_from_yields_List}
use borrow.Author.Tests.{tests}
use Rattle.meaning.specs.Packets.{letters_of}
use Rattle.meaning.specs.declared.letters.Letters.{Letters}
use Rattle.workers.specs.Holding.{got_of}
use Rattle.workers.proofs.Below.{front_below}
use Rattle.workers.proofs.Deciding.{some_mapped}
use Rattle.workers.proofs.got.Got.has_all.Goals as goal

pub returns : goal.returns
returns c =
    let xs = box_value c.args.self.now.slots in
    let long : c.args.table.now.workers ≤ length xs = omega (arith, c.args.self.now.all, c.args.table.now.many) in
    all_from_yields_List (λ (o : Option Letters). is_some o) _ _ c.all.result c.all.ensures.ran (YieldsList-from_slice c.of.result.now cc) (λ x b q k. search (rules, tests))
    ∙ ap (list_all (λ (o : Option Letters). is_some o)) c.of.ensures
    ∙ front_below (λ (o : Option Letters). is_some o) (λ j. is_some (got_of c.args.self.now j)) xs None (λ j. some_mapped letters_of _) c.args.table.now.workers long
