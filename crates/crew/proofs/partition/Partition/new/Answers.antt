use Rattle.std.proofs.Common.{◌<◌, arith}
use Rattle.crew.proofs.Owners.{covered}
use Rattle.crew.proofs.partition.Partition.new.Goals as goal

pub invariant_of-result-clause-owned : goal.invariant_of-result-clause-owned
invariant_of-result-clause-owned c v h =
    let n = c.in_ok-counts.counts in
    let here : v < n.places = omega (arith, c.in_ok-counts.ensures.0) in
    omega (arith, c.in_ok-owners.ensures.1 v here, covered n.places n.workers c.args.stretches.now v n.some c.in_ok-check.ensures, c.in_ok-counts.ensures.1)
