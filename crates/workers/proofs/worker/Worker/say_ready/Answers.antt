use Rattle.std.proofs.Common.{Bool, cond, [], ◌∷◌, ◌++◌, vec_items, sym, ap, ◌∙◌}
use Rattle.std.proofs.lemmas.List.{append-nil}
use Rattle.std.proofs.lemmas.Result.{IfOk-weaker}
use Rattle.crew.specs.Messages.{Ready, Parcel}
use Rattle.crew.specs.Stored.{parcels_of}
use Rattle.crew.specs.Worker.{is_silent, to_foreman}
use Rattle.workers.specs.Crewed.{job_in, worker_of}
use Rattle.workers.proofs.worker.Worker.say_ready.Goals as goal

pub returns : goal.returns
returns c =
    let s = c.args.self.now in
    let old = parcels_of (vec_items c.args.says.now) in
    let ready : Bool → Parcel = λ t. to_foreman s.station.me.0 (Ready s.attempt.0 s.round.0 t) in
    IfOk-weaker c.tell_foreman.result _ _
    (λ _ told q.
    told
    ∙ ap (λ t. old ++ ready t ∷ []) (c.is_silent.ensures q)
    ∙ ap (λ t. old ++ cond t (ready (is_silent (job_in s q) (worker_of s)) ∷ []) []) (sym c.if-not-is_ready.false ∙ c.is_ready.ensures.ready q))
    c.tell_foreman.ensures

pub returns-then-not-is_ready : goal.returns-then-not-is_ready
returns-then-not-is_ready c q =
    let s = c.args.self.now in
    let old = parcels_of (vec_items c.args.says.now) in
    let ready : Parcel = to_foreman s.station.me.0 (Ready s.attempt.0 s.round.0 (is_silent (job_in s q) (worker_of s))) in
    sym (append-nil old) ∙ ap (λ t. old ++ cond t (ready ∷ []) []) (sym c.if-not-is_ready.true ∙ c.is_ready.ensures.ready q)
