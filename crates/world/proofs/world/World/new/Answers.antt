use Rattle.world.proofs.Reaching.{reach_fresh}
use Rattle.world.proofs.world.World.new.Goals as goal

pub invariant_of-result : goal.invariant_of-result
invariant_of-result g c = record { reached = reach_fresh (g.P.Plan.program c.args.plan) c.in_ok-state.state c.in_ok-state.ensures.1 }
