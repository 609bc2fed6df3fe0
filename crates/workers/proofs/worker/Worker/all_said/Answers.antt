use Rattle.std.proofs.Common.{cond, List, [], ◌∷◌, ◌++◌, sym, ap, ◌∙◌}
use Rattle.crew.specs.Messages.{Hello, Parcel}
use Rattle.crew.specs.Stored.{parcels_of}
use Rattle.crew.specs.Worker.{to_foreman, says_batches, says_ready, says_put_by}
use Rattle.workers.specs.Crewed.{job_in, worker_of}
use Rattle.workers.specs.Phases.{is_over}
use Rattle.workers.proofs.Phasing.{going_in, going_on}
use Rattle.workers.proofs.worker.Worker.all_said.Goals as goal

pub returns-in_ok-say_put_by-in-Idle : goal.returns-in_ok-say_put_by-in-Idle
returns-in_ok-say_put_by-in-Idle c q =
    let s = c.args.self.now in
    let i = s.station.me.0 in
    let w = worker_of s in
    let b = job_in s q in
    let batches = says_batches b i w in
    let ready = says_ready b i w in
    let put = says_put_by i w.attempt w.latest in
    let hello : List Parcel = to_foreman i (Hello w.attempt) ∷ [] in
    c.in_ok-say_put_by-in-Idle.ensures
    ∙ ap (λ l. l ++ put) (c.in_ok-say_ready-in-Idle.ensures q)
    ∙ ap (λ l. (l ++ ready) ++ put) (c.in_ok-say_batches-in-Idle.ensures q)
    ∙ ap (λ l. ((parcels_of l ++ batches) ++ ready) ++ put) c.new-says.ensures.items
    ∙ ap (λ t. cond t [] ((batches ++ ready) ++ put)) (sym (going_on s.phase c.in-Idle.is))
    ∙ ap (λ t. cond t (cond (is_over s.phase) [] ((batches ++ ready) ++ put)) hello) (sym (going_in s.phase c.in-Idle.is))
