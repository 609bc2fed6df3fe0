use Rattle.std.proofs.Common.{◌≡◌, not, eqb, false, rules, sym, refl, ap, ◌∙◌}
use borrow.Author.Tests.{tests}
use Rattle.workers.proofs.Deciding.{stop, skip}
use Rattle.workers.proofs.worker.Worker.judge_go.Goals as goal

pub returns-then-not-is_ready-clause-judged : goal.returns-then-not-is_ready-clause-judged
returns-then-not-is_ready-clause-judged c =
    let from : not (eqb c.args.line.0 64) ≡ false = search (rules, tests) in
    λ q js. skip _ _ _ _ from (skip _ _ _ _ (ap not (sym c.is_next.ensures ∙ c.if-not-is_next.false)) (stop _ _ _ (ap not (sym (c.is_ready.ensures.ready q) ∙ c.if-not-is_ready.true))))

pub returns-clause-judged : goal.returns-clause-judged
returns-clause-judged c =
    let from : not (eqb c.args.line.0 64) ≡ false = search (rules, tests) in
    λ q js. skip _ _ _ _ from (skip _ _ _ _ (ap not (sym c.is_next.ensures ∙ c.if-not-is_next.false)) (skip _ _ _ _ (ap not (sym (c.is_ready.ensures.ready q) ∙ c.if-not-is_ready.false)) refl))
