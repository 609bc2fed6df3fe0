use Rattle.std.proofs.Common.{◌≡◌, ◌+◌, true, false, cond, [], ◌∷◌, vec_items, sym, ap, ◌∙◌}
use Rattle.std.proofs.lemmas.Result.{IfOk-weaker}
use Rattle.crew.specs.Journals.{Checkpoint}
use Rattle.crew.specs.Messages.{PutBy}
use Rattle.crew.specs.Stored.{parcels_of, records_of}
use Rattle.crew.specs.Worker as W
use Rattle.workers.specs.Crewed.{job_in, worker_of}
use Rattle.workers.proofs.worker.Worker.go_on.Goals as goal

pub returns-then-is_due-clause-replied : goal.returns-then-is_due-clause-replied
returns-then-is_due-clause-replied c =
    let s = c.args.self.now in
    let r = s.round.0 + 1 in
    let same = c.in_ok-step.ensures.same in
    let went = c.in_ok-step.ensures.went in
    let due : true ≡ W.is_due r = sym c.if-is_due.true ∙ c.is_due.ensures ∙ ap W.is_due c.requires.next in
    IfOk-weaker c.put_by.result _ _
    (λ a p q. record {
      state = went q;
      appends = p.0 ∙ (λ k. Checkpoint (went q k).round (went q k).share ∷ []) ∙ ap (λ t. cond t (Checkpoint r (W.next_share (job_in s q) (worker_of s)) ∷ []) []) due;
      says = p.1 ∙ (λ k. W.to_foreman (same k).me.0 (PutBy (went q k).attempt (went q k).round) ∷ []) ∙ ap (λ t. cond t (W.to_foreman s.station.me.0 (PutBy s.attempt.0 r) ∷ []) []) due;
      outcome = p.2;
    })
    c.put_by.ensures

pub returns-else-is_due-clause-replied : goal.returns-else-is_due-clause-replied
returns-else-is_due-clause-replied c =
    let s = c.args.self.now in
    let r = s.round.0 + 1 in
    let a = c.saying.ensures in
    let due : false ≡ W.is_due r = sym c.if-is_due.false ∙ c.is_due.ensures ∙ ap W.is_due c.requires.next in
    λ q. record {
      state = c.in_ok-step.ensures.went q;
      appends = ap records_of a.appends ∙ ap (λ t. cond t (Checkpoint r (W.next_share (job_in s q) (worker_of s)) ∷ []) []) due;
      says = ap (λ v. parcels_of (vec_items v)) a.says ∙ ap parcels_of c.new.ensures.items ∙ ap (λ t. cond t (W.to_foreman s.station.me.0 (PutBy s.attempt.0 r) ∷ []) []) due;
      outcome = a.outcome;
    }
