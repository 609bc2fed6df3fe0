use Rattle.std.proofs.Common.{cond, [], ◌∷◌, vec_items, refl, ap, ◌∙◌, subst}
use Rattle.crew.specs.Journals.{Joined}
use Rattle.crew.specs.Messages.{Hello}
use Rattle.crew.specs.Outcomes.{Taken}
use Rattle.crew.specs.Shared.{job_of}
use Rattle.crew.specs.Stored.{parcels_of, records_of}
use Rattle.crew.specs.Worker.{to_foreman}
use Rattle.workers.specs.Crewed.{Replied, started_as}
use Rattle.workers.specs.declared.station.Station.{Station}
use Rattle.workers.proofs.Opening.{opened_is}
use Rattle.workers.proofs.worker.Worker.open.Goals as goal

pub returns : goal.returns
returns g c =
    let q = g.P.Plan.program c.args.plan.now in
    let b = job_of c.args.table q in
    let i = c.args.me.0 in
    let w = c.in_ok-worker.worker in
    let made = c.in_ok-worker.ensures in
    let at = c.in_ok-station.ensures in
    let fresh = c.is_fresh-fresh.ensures in
    let last = c.last_joined-attempt.ensures in (
      ap (λ (s : Station). s.me) made.0 ∙ at.0,
      ap (λ (s : Station). s.table) made.0 ∙ at.1,
      subst (λ y. Replied y w (record { owed = c.new-2.result; outcome = Taken })) (opened_is b i (records_of c.args.journal.now))
          (record {
            state = made.1 ∙ (λ k. started_as (job_of (at.1 k) q) (at.0 k).0 (fresh k) (last k));
            appends = ap (λ v. records_of (vec_items v)) c.new-2.ensures.appends ∙ c.in_ok-appends.ensures ∙ (λ k. cond (fresh k) (Joined (last k) ∷ []) []);
            says = ap (λ v. parcels_of (vec_items v)) c.new-2.ensures.says ∙ c.in_ok-says.ensures ∙ (λ k. cond (fresh k) [] (to_foreman i (Hello (last k)) ∷ []));
            outcome = refl;
          }),
    )
