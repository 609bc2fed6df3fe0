use Rattle.std.proofs.Common.{◌≡◌, ℕ, ◌<◌, length, vec_items, vec_len, sym, ap, ◌∙◌, subst, arith}
use Rattle.std.proofs.lemmas.Bool.{eqb-true, eqb-false}
use Rattle.std.proofs.lemmas.Result.{err_from_is_err_and}
use Rattle.std.specs.Option.{option_map}
use Rattle.script.specs.Lines.{lines_left}
use Rattle.crew_script.specs.Proper.{Judged}
use Rattle.crew_script.specs.Script.{events_of, stretches_of, weight_of}
use Rattle.crew_script.specs.Told.{asked_in}
use Rattle.crew_script.proofs.Propriety.{judged, told_bad, told_good, told_set, weighs}
use Rattle.crew_script.proofs.reader.read.Goals as goal
use Rattle.crew_script.proofs.reader.read.Goals.{in_default-via-in-Some-script+else-is_empty, in_default-via-in_default}

pub returns-in_err-keep-clause-told : goal.returns-in_err-keep-clause-told
returns-in_err-keep-clause-told c =
    let l = c.loop-position in
    let p = err_from_is_err_and c.from_residual-in_err-keep.result c.from_residual-in_err-keep.ensures.1 in
    let stretches =
    weighs stretches_of (vec_items l.stretches) (lines_left l.position-iterator) (lines_left c.next.new.self) (c.in-Some.position, c.in-Some.line.now) c.args.text.now l.invariant.1 c.in-Some.ensures.steps in
    let events =
    weighs events_of (vec_items l.events) (lines_left l.position-iterator) (lines_left c.next.new.self) (c.in-Some.position, c.in-Some.line.now) c.args.text.now l.invariant.2 c.in-Some.ensures.steps in
    let weight : 0 < weight_of c.args.text.now =
    omega (arith, stretches, events, c.in_err-keep.ensures, ap (λ s. length (stretches_of s)) c.parse-statement.ensures, ap (λ s. length (events_of s)) c.parse-statement.ensures) in
    rw (p.1, p.2) weight

pub returns-in-Some-script-clause-told : goal.returns-in-Some-script-clause-told
returns-in-Some-script-clause-told c =
    let l = c.loop-position in
    let v = c.lack_all.new.complaints in
    told_good c.args.text.now c.survey-all.result l.given (lines_left l.position-iterator) (vec_items l.complaints) (vec_items v) (vec_items l.stretches) (vec_items l.events) c.in-None.ensures.steps.0 c.survey-all.ensures l.invariant.0
    l.invariant.1 l.invariant.2 c.in_ok-lack_all.ensures (asked_in c.in-Some-script.script) (sym c.script.ensures ∙ ap (option_map asked_in) c.in-Some-script.is) (sym v.ok.0 ∙ eqb-true (vec_len v) 0 (sym c.if-is_empty.ensures))

pub returns-in-Some-script-clause-judged : goal.returns-in-Some-script-clause-judged
returns-in-Some-script-clause-judged c = subst (Judged c.args.text.now) (sym (returns-in-Some-script-clause-told c)) (judged c.args.text.now)

pub returns-in_default-clause-told : goal.returns-in_default-clause-told
returns-in_default-clause-told c =
    let l = c.loop-position in
    let v = c.lack_all.new.complaints in
    told_bad c.args.text.now c.survey-all.result l.given (lines_left l.position-iterator) (vec_items l.complaints) (vec_items v) (vec_items l.stretches) (vec_items l.events) c.in-None.ensures.steps.0 c.survey-all.ensures l.invariant.0
    l.invariant.1 l.invariant.2 c.in_ok-lack_all.ensures
    (λ none.
    let set =
    told_set c.args.text.now c.survey-all.result l.given (lines_left l.position-iterator) (vec_items l.complaints) (vec_items v) (vec_items l.stretches) (vec_items l.events) c.in-None.ensures.steps.0 c.survey-all.ensures l.invariant.0
    l.invariant.1 l.invariant.2 c.in_ok-lack_all.ensures none in
    elim c.in_default.branch [
      | in_default-via-in-Some-script+else-is_empty w ↦ eqb-false (vec_len v) 0 (sym w.if-is_empty.ensures) (v.ok.0 ∙ ap length none)
      | in_default-via-in_default w ↦ let h = sym (ap (option_map asked_in) w.in_default.is) ∙ c.script.ensures ∙ set in let z : ◌≡◌ {A = ℕ} 0 1 = cc in omega arith
    ])

pub returns-in_default-clause-judged : goal.returns-in_default-clause-judged
returns-in_default-clause-judged c = subst (Judged c.args.text.now) (sym (returns-in_default-clause-told c)) (judged c.args.text.now)
