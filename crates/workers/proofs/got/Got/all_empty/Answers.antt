use Rattle.std.proofs.Common.{◌≤◌, Bool, length, None, Option, box_value, rules, refl, ap, ◌∙◌, arith}
use Rattle.std.specs.List.{list_all}
use Rattle.std.specs.Option.{option_map}
use Rattle.std.proofs.lemmas.Iterator.{YieldsList-from_slice}
use Rattle.std.proofs.lemmas.Iterator.Search.{all_from_yields_List}
use borrow.Author.Tests.{tests}
use Rattle.crew.specs.Worker.{letters_in}
use Rattle.meaning.specs.Meaning.{none}
use Rattle.meaning.specs.Packets.{letters_of}
use Rattle.meaning.specs.declared.letters.Letters.{Letters}
use Rattle.workers.specs.Holding.{got_of}
use Rattle.workers.proofs.Below.{front_below}
use Rattle.workers.proofs.got.Got.all_empty.Goals as goal

pub returns : goal.returns
returns c =
    let xs = box_value c.args.self.now.slots in
    let empty : Option Letters → Bool = λ o. none (letters_in (option_map letters_of o)) in
    let long : c.args.table.now.workers ≤ length xs = omega (arith, c.args.self.now.all, c.args.table.now.many) in
    all_from_yields_List empty _ _ c.all.result c.all.ensures.ran (YieldsList-from_slice c.of.result.now cc) (λ x b q k. search (rules, tests))
    ∙ ap (list_all empty) c.of.ensures
    ∙ front_below empty (λ j. none (letters_in (got_of c.args.self.now j))) xs None (λ j. refl) c.args.table.now.workers long
