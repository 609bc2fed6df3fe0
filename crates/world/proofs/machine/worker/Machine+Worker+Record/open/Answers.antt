use Rattle.std.proofs.Common.{vec_items}
use Rattle.crew.specs.Shared.{job_of}
use Rattle.runs.specs.World.{Open}
use Rattle.world.proofs.Calling.{came, open_same}
use Rattle.world.proofs.machine.worker.Machine+Worker+Record.open.Goals as goal

pub returns-clause-did : goal.returns-clause-did
returns-clause-did g c =
    let s = c.args.self.now in
    let t = c.args.table.now in
    let q = g.P.Plan.program c.args.setting.now.plan.now in
    let records = vec_items s.journal.records in
    let call = open_same t c.in_ok-table.table q c.args.me.0 records c.records.result.now s.up c.requires.down c.in_ok-table.ensures.cases c.records.ensures in
    came (job_of t q) c.args.me.0 Open s.up c.in_ok-worker.worker c.in_ok-worker.field-0-1 records _ (vec_items c.in_ok-says.says) call c.in_ok-worker.ensures.2 c.in_ok-says.ensures
