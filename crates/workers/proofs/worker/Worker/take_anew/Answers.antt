use Rattle.std.proofs.Common.{refl, ap, subst}
use Rattle.std.proofs.lemmas.Result.{IfOk-weaker}
use Rattle.crew.specs.Messages.{Anew}
use Rattle.crew.specs.Stored.{records_of}
use Rattle.crew.specs.Worker as W
use Rattle.workers.specs.Crewed.{Replied, job_in, worker_of}
use Rattle.workers.proofs.worker.Worker.take_anew.Goals as goal

pub returns-in-Err-clause-replied : goal.returns-in-Err-clause-replied
returns-in-Err-clause-replied g c =
    let s = c.args.self.now in
    let q = g.P.Plan.program c.args.plan.now in
    let x = c.args.anew in
    IfOk-weaker c.refuse_anew.result _ _
    (λ a p. subst (λ o. Replied (W.took_by (job_in s q) s.station.me.0 (records_of c.args.journal.now) (worker_of s) c.args.line.0 (Anew x.attempt.0 x.round.0) o) s a) (c.in-Err.ensures.judged q)
    (record { state = refl; appends = ap records_of p.0; says = p.1; outcome = p.2 }))
    c.refuse_anew.ensures

pub returns-in-Ok-clause-replied : goal.returns-in-Ok-clause-replied
returns-in-Ok-clause-replied g c =
    let s = c.args.self.now in
    let q = g.P.Plan.program c.args.plan.now in
    let x = c.args.anew in
    IfOk-weaker c.join.result _ _
    (λ a h. subst (λ o. Replied (W.took_by (job_in s q) s.station.me.0 (records_of c.args.journal.now) (worker_of s) c.args.line.0 (Anew x.attempt.0 x.round.0) o) c.join.new.self a) (c.in-Ok.ensures.judged q) h)
    c.join.ensures.replied
