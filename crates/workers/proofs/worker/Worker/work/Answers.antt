use Rattle.std.proofs.Common.{◌≡◌, cond, ltb, ◌++◌, vec_items, sym, ap, ◌∙◌, subst, arith, lt-ltb}
use Rattle.meaning.specs.Caps.{round_cap}
use Rattle.crew.specs.Outcomes.{judged, only_full}
use Rattle.crew.specs.Shared.{job_of}
use Rattle.crew.specs.Stored.{parcels_of, records_of}
use Rattle.crew.specs.Worker as W
use Rattle.crew.specs.Outcomes.{Taken}
use Rattle.workers.specs.Crewed.{Replied, job_in, worker_of}
use Rattle.workers.proofs.worker.Worker.work.Goals as goal

pub returns-clause-replied : goal.returns-clause-replied
returns-clause-replied g c =
    let q = g.P.Plan.program c.args.plan.now in
    let s = c.args.self.now in
    let t = c.do_round.new.self in
    let b = job_in s q in
    let i = s.station.me.0 in
    let w = worker_of s in
    let did = W.did_work b i (W.with_worked b i w) in
    let same = c.in_ok-do_round.ensures.same in
    let worked = c.in_ok-do_round.ensures.worked in
    let a = c.saying-2.ensures in
    let batches : W.says_batches (job_in t q) t.station.me.0 (worker_of t) ≡ W.says_batches b i (W.with_worked b i w) = λ k. W.says_batches (job_of (same k).table q) (same k).me.0 (worked k) in
    let ready : W.says_ready (job_in t q) t.station.me.0 (worker_of t) ≡ W.says_ready b i (W.with_worked b i w) = λ k. W.says_ready (job_of (same k).table q) (same k).me.0 (worked k) in
    let leads : did ≡ W.works b i w =
    ap (λ x. cond x did (W.unmoved w (judged only_full))) (sym (lt-ltb s.round.0 round_cap (omega arith)))
    ∙ ap (λ x. cond x (cond (ltb s.round.0 round_cap) did (W.unmoved w (judged only_full))) (W.unmoved w Taken)) (sym c.if-not-is_idle.false ∙ c.is_idle.ensures.idle) in
    subst (λ y. Replied y t c.saying-2.result) leads
    (record {
      state = worked;
      appends = ap records_of a.appends;
      says = ap (λ v. parcels_of (vec_items v)) a.says
          ∙ c.in_ok-say_ready.ensures q
          ∙ (λ k. c.in_ok-say_batches.ensures q k ++ ready k)
          ∙ (λ k. (parcels_of (c.new-says.ensures.items k) ++ batches k) ++ W.says_ready b i (W.with_worked b i w));
      outcome = a.outcome;
    })
