use Rattle.std.proofs.Common.{vec_items, refl, ap}
use Rattle.crew.specs.Shared.{job_of}
use Rattle.world.specs.Calls.{call_of}
use Rattle.world.proofs.Calling.{call_same, did}
use Rattle.world.proofs.machine.worker.Machine+Worker+Record.call.Goals as goal

pub returns-in_ok-owed-in-Some-Take-clause-did : goal.returns-in_ok-owed-in-Some-Take-clause-did
returns-in_ok-owed-in-Some-Take-clause-did g c =
    let s = c.args.self.now in
    let t = c.args.table.now in
    let q = g.P.Plan.program c.args.setting.now.plan.now in
    let records = vec_items s.journal.records in
    let call = call_same t q c.args.me.0 (call_of c.args.call) _ records c.records.result.now s.up c.in-Some-Take.worker c.requires c.in-Some-Take.is-0 (ap call_of c.in-Some-Take.is-1) in
    did (job_of t q) c.args.me.0 (call_of c.args.call) s.up c.take.new.self c.in_ok-owed-in-Some-Take.field-0 records _ c.keep.result _ (call c.records.ensures) c.in_ok-owed-in-Some-Take.ensures.replied c.keep.ensures

pub returns-in_ok-owed-in-Some-Tick-clause-did : goal.returns-in_ok-owed-in-Some-Tick-clause-did
returns-in_ok-owed-in-Some-Tick-clause-did g c =
    let s = c.args.self.now in
    let t = c.args.table.now in
    let q = g.P.Plan.program c.args.setting.now.plan.now in
    let records = vec_items s.journal.records in
    let call = call_same t q c.args.me.0 (call_of c.args.call) _ records records s.up c.in-Some-Tick.worker c.requires c.in-Some-Tick.is-0 (ap call_of c.in-Some-Tick.is-1) in
    did (job_of t q) c.args.me.0 (call_of c.args.call) s.up c.in-Some-Tick.worker c.in_ok-owed-in-Some-Tick.field-0 records _ c.keep-in-Some-Tick.result _ (call refl) (c.in_ok-owed-in-Some-Tick.ensures q) c.keep-in-Some-Tick.ensures

pub returns-in_ok-owed-in-Some-Work-clause-did : goal.returns-in_ok-owed-in-Some-Work-clause-did
returns-in_ok-owed-in-Some-Work-clause-did g c =
    let s = c.args.self.now in
    let t = c.args.table.now in
    let q = g.P.Plan.program c.args.setting.now.plan.now in
    let records = vec_items s.journal.records in
    let call = call_same t q c.args.me.0 (call_of c.args.call) _ records records s.up c.in-Some-Work.worker c.requires c.in-Some-Work.is-0 (ap call_of c.in-Some-Work.is-1) in
    did (job_of t q) c.args.me.0 (call_of c.args.call) s.up c.work.new.self c.in_ok-owed-in-Some-Work.field-0 records _ c.keep-in-Some-Work.result _ (call refl) c.in_ok-owed-in-Some-Work.ensures.replied c.keep-in-Some-Work.ensures
