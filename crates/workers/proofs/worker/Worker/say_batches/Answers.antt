use Rattle.std.proofs.Common.{rules, ◌≡◌, ◌++◌, length, vec_items, sym, ap, ◌∙◌, arith}
use Rattle.std.proofs.lemmas.List.FromFn.{length-map-range_with_len}
use Rattle.std.proofs.lemmas.List.{length-map}
use Rattle.std.proofs.lemmas.Result.{IfOk-weaker}
use Rattle.batches.specs.Sharing.{part_of, parts_of}
use Rattle.meaning.specs.Mail.{post_of}
use Rattle.meaning.specs.Packets.{letters_of}
use Rattle.crew.specs.Shared.{owner_of}
use Rattle.crew.specs.Stored.{parcels_of}
use Rattle.crew.specs.Worker as W
use Rattle.crew.specs.Worker.{says_batches}
use Rattle.workers.specs.Crewed.{job_in, share_in}
use Rattle.workers.specs.Holding.{got_of}
use Rattle.workers.specs.declared.phase.Phase.{Phase}
use Rattle.std.specs.Option.{option_map}
use Rattle.meaning.specs.declared.numbers.Round.{Round}
use borrow.Author.Tests.{tests}
use Rattle.rounds.specs.Work.{worked_of}
use Rattle.workers.specs.Phases.{is_in, is_over, worked_in}
use Rattle.workers.specs.declared.phase.Phase.TheVariants.{Worked}
use Rattle.workers.specs.Saying.{batches_from}
use Rattle.workers.proofs.Sending.{batches_are}
use Rattle.workers.proofs.worker.Worker.say_batches.Goals as goal

pub send_parts-requires : goal.send_parts-requires
send_parts-requires c =
    let v = c.in_ok-parts.parts in
    let t = c.args.self.now.station.table in
    let m = t.workers in
    let ls = letters_of c.letters.result.now in
    let e : length (vec_items v) ≡ m = sym (length-map (vec_items v) letters_of) ∙ ap length c.in_ok-parts.ensures ∙ length-map-range_with_len (λ j. part_of (owner_of t) j ls) 0 m in
    omega (arith, v.ok.0, t.many)

pub returns : goal.returns
returns c =
    let s = c.args.self.now in
    let i = s.station.me.0 in
    let k = s.attempt.0 in
    let r = s.round.0 in
    let m = s.station.table.workers in
    let own = owner_of s.station.table in
    let e : s.phase ≡ Worked = search (rules, tests) in
    let at : Phase → W.Worker = λ p. record { joined = is_in p; attempt = k; round = r; share = share_in s; worked = worked_in p (worked_of s.next); got = got_of s.got; over = is_over p; latest = option_map (λ (x : Round). x.0) s.latest } in
    let old = parcels_of (vec_items c.args.says.now) in
    IfOk-weaker c.send_parts.result _ _
    (λ _ told q.
    told
    ∙ ap (λ l. old ++ batches_from i k r 0 l) (c.in_ok-parts.ensures ∙ ap (parts_of own m) c.letters.ensures)
    ∙ ap (λ l. old ++ l) (batches_are i k r (λ j. part_of own j (post_of s.next.out).letters) 0 m)
    ∙ ap (λ p. old ++ says_batches (job_in s q) i (at p)) (sym e))
    c.send_parts.ensures
