use Rattle.std.proofs.Common.{◌≡◌, length, arith, rules}
use Rattle.plans.proofs.Adding.{number_listed}
use Rattle.plans.proofs.bytes.number.Goals as goal

pub returns-in-len8 : goal.returns-in-len8
returns-in-len8 c =
    let long : length c.args.bytes.now ≡ 8 = search rules in
    omega (arith, c.from_be_bytes-in-len8.ensures, c.from_be_bytes-in-len8.type_inv, number_listed c.args.bytes.now 8 long)
