use Rattle.std.proofs.Common.{sym, subst}
use Rattle.std.proofs.lemmas.Result.{IfOk-weaker}
use Rattle.meaning.specs.Packets.{letters_of}
use Rattle.crew.specs.Stored.{message_of, records_of}
use Rattle.crew.specs.Worker as W
use Rattle.crew.specs.declared.message.Kind.{Kind}
use Rattle.workers.specs.Crewed.{Replied, job_in, worker_of}
use Rattle.workers.proofs.worker.Worker.take.Goals as goal

pub returns-in-Batch-clause-replied : goal.returns-in-Batch-clause-replied
returns-in-Batch-clause-replied g c =
    let s = c.args.self.now in
    let q = g.P.Plan.program c.args.plan.now in
    let js = records_of c.args.journal.now in
    IfOk-weaker c.take_batch.result _ _
    (λ a h. subst (λ (x : Kind). Replied (W.took (job_in s q) s.station.me.0 js (worker_of s) c.args.line.0 (message_of x (letters_of c.args.letters.now))) c.take_batch.new.self a) (sym c.in-Batch.is) (h q js))
    c.take_batch.ensures.replied

pub returns-in-Go-clause-replied : goal.returns-in-Go-clause-replied
returns-in-Go-clause-replied g c =
    let s = c.args.self.now in
    let q = g.P.Plan.program c.args.plan.now in
    let js = records_of c.args.journal.now in
    IfOk-weaker c.take_go.result _ _
    (λ a h. subst (λ (x : Kind). Replied (W.took (job_in s q) s.station.me.0 js (worker_of s) c.args.line.0 (message_of x (letters_of c.args.letters.now))) c.take_go.new.self a) (sym c.in-Go.is) (h q js))
    c.take_go.ensures.replied
