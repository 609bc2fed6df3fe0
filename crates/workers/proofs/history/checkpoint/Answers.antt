use Rattle.std.proofs.Common.{◌≡◌, ◌-◌, ℕ, [], ◌∷◌, length, Bor, rules, subst, sym, ap, ◌∙◌, arith}
use borrow.Author.Tests.{tests}
use Rattle.std.specs.Option.{option_map}
use Rattle.std.specs.Slice.Iter.{iter_rest}
use Rattle.std.specs.Iterator.Runs.{ItemsMapToReversed}
use Rattle.crew.specs.Journals.{checkpoint_of}
use Rattle.crew.specs.Stored.{record_of}
use Rattle.crew.specs.declared.journal.Record.{Record}
use Rattle.workers.specs.Seen.{view_in}
use Rattle.workers.proofs.Finding.{last_given}
use Rattle.workers.proofs.Records.{is_last}
use Rattle.workers.proofs.history.checkpoint.Goals as goal

pub returns : goal.returns
returns c =
    let r = c.args.round.0 in
    let js = c.args.journal.now in
    let p = c.find_map.ensures.runs in
    let q = c.rev.ensures.runs p.0 p.0.seen p.1 in
    let rest : iter_rest q.0.from ≡ js = cc in
    let back = subst (ItemsMapToReversed q.0 (λ (y : Bor Record). y.now)) rest (c.iter.ensures.runs_back q.0 q.0.seen) in
    let long : q.0.len ≡ p.0.len = q.2.0.0 in
    let at : (k : ℕ) → q.0.at k ≡ p.0.at k = q.2.0.2 in
    let whole : q.0.whole ≡ p.0.whole = q.2.1 in
    sym (is_last r record_of (option_map view_in c.find_map.result) js
    (last_given _ _ view_in (λ x. checkpoint_of r (record_of x ∷ [])) (λ x o f k. search (rules, tests)) js p.0.len p.0.whole p.0.at
    (λ e. sym long ∙ back.1 (whole ∙ e))
    (omega (arith, long, back.0))
    (λ k d lt h. ap (option_map (λ (y : Bor Record). y.now)) (sym (at (length js - 1 - k))) ∙ back.2 k d lt (omega (arith, long, h)))
    c.find_map.result p.2))
