use Rattle.std.proofs.Common.{◌≡◌, Some, map, length, vec_items, sym, ap, ◌∙◌}
use Rattle.std.proofs.lemmas.List.{length-map}
use Rattle.packed.specs.Strings.{items}
use Rattle.meaning.specs.Mail.{received}
use Rattle.meaning.specs.Meaning.{Turn, View}
use Rattle.rounds.specs.Turns as R
use Rattle.rounds.specs.Work.{worked_of}
use Rattle.rounds.specs.Yielding.{number}
use Rattle.crew.specs.Worker as W
use Rattle.workers.specs.Crewed.{job_in, worker_of}
use Rattle.workers.specs.Phases.{is_in, is_over}
use Rattle.workers.proofs.Placing.{copied_places}
use Rattle.workers.proofs.Turning.{same_view, turns_length}
use Rattle.workers.proofs.worker.Worker.do_round.Goals as goal

pub invariant_of-self-2 : goal.invariant_of-self-2
invariant_of-self-2 g c =
    let s = c.args.self.now in
    let q = g.P.Plan.program c.args.plan.now in
    let b = job_in s q in
    let r = s.round.0 in
    let post = received s.inbox in
    let ps = map number (vec_items s.station.mine) in
    let ss = items s.standing.states in
    let bs = vec_items s.standing.rests in
    let ts = W.turns_of b r post ps ss bs in
    let worked : worked_of c.work.new.self ≡ W.view_of_turns ts =
    c.in_ok-work.ensures.worked ps (copied_places c.copied-mine.result (vec_items s.station.mine) cc)
    ∙ ap (λ n. R.view_of_turns (R.turns_of n q r post ps ss bs)) s.beside
    ∙ same_view b r post ps ss bs in
    let many : length ps ≡ length (vec_items s.station.mine) = length-map (vec_items s.station.mine) number in
    record {
      owns = s.owns;
      known = s.known;
      beside = c.in_ok-work.ensures.places ∙ s.beside;
      next_known = λ _. ap (λ (v : View). length v.rests) worked ∙ length-map ts (λ (t : Turn). t.rests) ∙ turns_length b r post ps ss bs (s.standing.even ∙ s.known ∙ sym many) (s.known ∙ sym many) ∙ many;
    }

pub returns-clause-worked : goal.returns-clause-worked
returns-clause-worked g c =
    let s = c.args.self.now in
    let q = g.P.Plan.program c.args.plan.now in
    let b = job_in s q in
    let r = s.round.0 in
    let w = worker_of s in
    let post = received s.inbox in
    let ps = map number (vec_items s.station.mine) in
    let ss = items s.standing.states in
    let bs = vec_items s.standing.rests in
    let worked : worked_of c.work.new.self ≡ W.worked_of b s.station.me.0 r w.share =
    c.in_ok-work.ensures.worked ps (copied_places c.copied-mine.result (vec_items s.station.mine) cc)
    ∙ ap (λ n. R.view_of_turns (R.turns_of n q r post ps ss bs)) s.beside
    ∙ same_view b r post ps ss bs
    ∙ ap (λ l. W.view_of_turns (W.turns_of b r post l ss bs)) s.owns in
    λ i. record { joined = sym (ap is_in c.requires) i; attempt = w.attempt; round = r; share = w.share; worked = Some (worked i); got = w.got; over = sym (ap is_over c.requires) i; latest = w.latest }
