use Rattle.std.proofs.Common.{sym, ap, ◌∙◌}
use Rattle.crew.specs.Shared.{job_of}
use Rattle.world.specs.Events.{happened}
use Rattle.world.specs.Staged.{crew_of}
use Rattle.world.proofs.state.State.happen.Goals as goal

pub returns-in-Crash : goal.returns-in-Crash
returns-in-Crash g c =
    let s = c.args.self.now in
    let q = g.P.Plan.program c.args.setting.now.plan.now in
    record { table = (c.crash.ensures q).table; crew = (c.crash.ensures q).crew ∙ ap (λ e. happened (job_of s.table q) e (crew_of s)) (sym c.in-Crash.is) }
