use Rattle.std.proofs.Common.{◌≡◌, ◌+◌, ◌*◌, ◌%◌, ◌^◌, fold, ◌∙◌, rules}
use Rattle.plans.proofs.Adding.{number_low}
use Rattle.plans.proofs.bytes.byte_by_byte.Goals as goal

pub returns : goal.returns
returns c =
    let steps : c.fold.result ≡ fold (λ n b. (n * 256 % 2 ^ 64 + b) % 2 ^ 64) 0 c.args.bytes.now = search rules in
    steps ∙ number_low c.args.bytes.now
