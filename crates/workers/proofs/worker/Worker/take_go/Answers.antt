use Rattle.std.proofs.Common.{refl, ap, subst}
use Rattle.std.proofs.lemmas.Result.{IfOk-weaker}
use Rattle.crew.specs.Messages.{Go}
use Rattle.crew.specs.Stored.{parcels_of, records_of}
use Rattle.crew.specs.Worker as W
use Rattle.workers.specs.Crewed.{Replied, job_in, worker_of}
use Rattle.workers.proofs.worker.Worker.take_go.Goals as goal

pub returns-in-Err-clause-replied : goal.returns-in-Err-clause-replied
returns-in-Err-clause-replied c =
    let s = c.args.self.now in
    let a = c.refusing.ensures in
    let g = c.args.go in
    λ q js. subst (λ o. Replied (W.took_by (job_in s q) s.station.me.0 js (worker_of s) c.args.line.0 (Go g.attempt.0 g.round.0 g.noted.0 g.over) o) s c.refusing.result) (c.in-Err.ensures.judged q js)
    (record { state = refl; appends = ap records_of a.appends; says = ap parcels_of a.says; outcome = a.outcome })

pub returns-in-Ok-clause-replied : goal.returns-in-Ok-clause-replied
returns-in-Ok-clause-replied c =
    let s = c.args.self.now in
    let g = c.args.go in
    IfOk-weaker c.go_on.result _ _
    (λ a h q js. subst (λ o. Replied (W.took_by (job_in s q) s.station.me.0 js (worker_of s) c.args.line.0 (Go g.attempt.0 g.round.0 g.noted.0 g.over) o) c.go_on.new.self a) (c.in-Ok.ensures.judged q js) (h q))
    c.go_on.ensures.replied
