use Rattle.std.proofs.Common.{◌≡◌, leb, [], sym, ap, ◌∙◌}
use Rattle.std.proofs.lemmas.Bool.{cond-true, cond-false, le-leb, lt-leb}
use Rattle.meaning.specs.Given.{input_of}
use Rattle.meaning.specs.Mail.{post_of, mailed}
use Rattle.plans.specs.Grid.{around, mixed}
use Rattle.plans.specs.Numbers.{be8}
use Rattle.plans.specs.Sending.{to_each}
use Rattle.plans.proofs.Adding.{be8_low}
use Rattle.plans.proofs.Mailing.{mailed_none}
use Rattle.plans.proofs.grid.calls.GridPlan.act.Goals as goal
use Rattle.plans.proofs.grid.calls.GridPlan.act.Goals.{then-not-rests, else-not-rests}

pub returns-clause-sent : goal.returns-clause-sent
returns-clause-sent c =
    let y = mixed (input_of c.args.given c.args.state.now) in
    let p = c.args.self.now in
    let r = c.args.given.round.0 in
    let o = post_of c.args.out.now in
    let sends = to_each (be8 y) (around p.width c.args.given.place.0) in
    let bytes : c.to_be_bytes-stirred.result ≡ be8 y = c.to_be_bytes-stirred.ensures ∙ ap be8 c.stir.ensures ∙ be8_low y in
    elim c.if-not-rests.branch [
      | then-not-rests w ↦
          ap post_of w.out-is ∙ w.send_to_each.ensures
          ∙ (λ i. mailed o (to_each (bytes i) (w.neighbours.ensures i)))
          ∙ ap (mailed o) (sym (cond-false (leb p.last r) [] sends (lt-leb p.last r w.if-not-rests.true)))
      | else-not-rests w ↦
          ap post_of w.out-is ∙ mailed_none o
          ∙ ap (mailed o) (sym (cond-true (leb p.last r) [] sends (le-leb p.last r w.if-not-rests.false)))
    ]
