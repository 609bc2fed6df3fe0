use Rattle.world.proofs.Reaching.{reach_happened}
use Rattle.world.proofs.world.World.happen.Goals as goal

pub invariant_of-result : goal.invariant_of-result
invariant_of-result g c =
    let s = c.args.self in
    record { reached = reach_happened (g.P.Plan.program s.plan) c.args.event s.state c.happen.new.self c.in_ok-happen.ensures s.reached }
