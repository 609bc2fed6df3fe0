use Rattle.std.proofs.Common.{◌≡◌, [], refl, ap, ◌∙◌, rules}
use Rattle.std.specs.List.{flat_map}
use Rattle.std.specs.Iterator.{YieldsFirstBy}
use Rattle.std.proofs.lemmas.Fn.{fold_over}
use Rattle.std.proofs.lemmas.Iterator.Consumers.{YieldsList-from_first}
use Rattle.std.proofs.lemmas.List.{flat_map_more}
use Rattle.meaning.specs.Given.{letters_at}
use Rattle.meaning.specs.Left.{place_letters_left}
use Rattle.meaning.specs.Packets.{received_of}
use Rattle.plans.specs.Digest.{hashed, spelled}
use Rattle.plans.proofs.Hashing.{hashed_then}
use Rattle.plans.proofs.digest.fnv_letters.Goals as goal

pub returns : goal.returns
returns c =
    let all = letters_at c.args.given.now in
    let start = c.args.start in
    fold_over (YieldsFirstBy received_of place_letters_left) received_of _ (λ ls h. h ≡ hashed start (flat_map spelled ls)) _
    (λ ls h x b f e k.
    let one : b ≡ hashed h (spelled (received_of x)) = search rules in
    (hashed_then start h b (flat_map spelled ls) (spelled (received_of x)) e one ∙ ap (hashed start) (flat_map_more spelled [] ls (received_of x)), search rules))
    c.iter.result all start c.fold.result (YieldsList-from_first received_of place_letters_left {s = c.iter.result} all c.iter.ensures).runs refl c.fold.ensures.ran
