use Rattle.std.proofs.Common.{get_or, ap, ◌∙◌}
use Rattle.world.proofs.Looking.{look_meant, mine_same}
use Rattle.world.proofs.world.World.look.Goals as goal

pub returns-clause-meant : goal.returns-clause-meant
returns-clause-meant g c =
    let s = c.args.self.now in
    let state = c.in_ok-state.ensures in
    let seen = look_meant (g.P.Plan.program s.plan) s.state c.args.line.0 c.args.k c.in_ok-worker.worker.now _ _ _ _ s.reached c.in_ok-worker.ensures c.in_ok-place.ensures.1 state.0 state.1 c.rests.ensures c.round.ensures in
    record { state = seen.0; rests = seen.1 }

pub returns-clause-place : goal.returns-clause-place
returns-clause-place g c =
    let s = c.args.self.now in
    c.in_ok-place.ensures.1 ∙ ap (λ l. get_or l c.args.k 0) (mine_same (g.P.Plan.program s.plan) s.state c.args.line.0 c.in_ok-worker.worker.now c.in_ok-worker.ensures)
