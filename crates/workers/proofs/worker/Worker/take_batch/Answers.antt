use Rattle.std.proofs.Common.{refl, ap, subst}
use Rattle.std.proofs.lemmas.Result.{IfOk-weaker}
use Rattle.meaning.specs.Packets.{letters_of}
use Rattle.crew.specs.Messages.{Batch}
use Rattle.crew.specs.Stored.{parcels_of, records_of}
use Rattle.crew.specs.Worker as W
use Rattle.workers.specs.Crewed.{Replied, job_in, worker_of}
use Rattle.workers.proofs.worker.Worker.take_batch.Goals as goal

pub returns-in-Err-clause-replied : goal.returns-in-Err-clause-replied
returns-in-Err-clause-replied c =
    let s = c.args.self.now in
    let a = c.refusing.ensures in
    let b = c.args.batch in
    λ q js. subst (λ o. Replied (W.took_by (job_in s q) s.station.me.0 js (worker_of s) c.args.line.0 (Batch b.attempt.0 b.round.0 b.from.0 b.to.0 (letters_of c.args.letters.now)) o) s c.refusing.result) (c.in-Err.ensures.judged q js)
    (record { state = refl; appends = ap records_of a.appends; says = ap parcels_of a.says; outcome = a.outcome })

pub returns-in-Ok-clause-replied : goal.returns-in-Ok-clause-replied
returns-in-Ok-clause-replied c =
    let s = c.args.self.now in
    let b = c.args.batch in
    IfOk-weaker c.put_batch.result _ _
    (λ a h q js. subst (λ o. Replied (W.took_by (job_in s q) s.station.me.0 js (worker_of s) c.args.line.0 (Batch b.attempt.0 b.round.0 b.from.0 b.to.0 (letters_of c.args.letters.now)) o) c.put_batch.new.self a) (c.in-Ok.ensures.judged q js) (h q))
    c.put_batch.ensures.replied
