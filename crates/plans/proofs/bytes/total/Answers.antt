use Rattle.std.proofs.Common.{◌≡◌, ◌+◌, ◌%◌, ◌^◌, arith, rules}
use Rattle.std.specs.Iterator.{YieldsFirstBy}
use Rattle.std.proofs.lemmas.Fn.{fold_over}
use Rattle.std.proofs.lemmas.Iterator.Consumers.{YieldsList-from_first}
use Rattle.std.proofs.lemmas.List.Sums.{sum_by_push}
use Rattle.meaning.specs.Given.{letters_at}
use Rattle.meaning.specs.Left.{place_letters_left}
use Rattle.meaning.specs.Meaning.{Letter}
use Rattle.meaning.specs.Packets.{received_of}
use Rattle.plans.specs.Numbers.{number_of, total_of}
use Rattle.plans.proofs.bytes.total.Goals as goal

pub returns : goal.returns
returns c =
    let all = letters_at c.args.given.now in
    fold_over (YieldsFirstBy received_of place_letters_left) received_of _ (λ ls n. n ≡ total_of ls % 2 ^ 64) _
    (λ ls n x b f e k.
    let one : b ≡ (n + number_of (received_of x).bytes % 2 ^ 64) % 2 ^ 64 = search rules in
    (omega (arith, sum_by_push (λ (l : Letter). number_of l.bytes) ls (received_of x)), search rules))
    c.iter.result all 0 c.fold.result (YieldsList-from_first received_of place_letters_left {s = c.iter.result} all c.iter.ensures).runs (omega arith) c.fold.ensures.ran
