use Rattle.std.proofs.Common.{length, vec_items, vec_len, sym, ap, ◌∙◌, subst}
use Rattle.std.proofs.lemmas.Bool.{eqb-true, eqb-false}
use Rattle.std.proofs.lemmas.Result.{err_from_is_err_and}
use Rattle.script.specs.Lines.{lines_left}
use Rattle.script.specs.Proper.{Judged}
use Rattle.script.specs.Given.{fault_of}
use Rattle.script.proofs.Propriety.{bad_line, judged, lacks, told_bad, told_good, told_set}
use Rattle.script.proofs.reader.read.Goals as goal
use Rattle.script.proofs.reader.read.Goals.{in_default-via-in-Some-script+else-is_empty, in_default-via-in_default}

pub returns-in_err-note-clause-told : goal.returns-in_err-note-clause-told
returns-in_err-note-clause-told c =
    let l = c.loop-position in
    let p = err_from_is_err_and c.from_residual.result c.from_residual.ensures.1 in
    rw (p.1, p.2)
    (bad_line c.args.text.now l.given (lines_left l.position-iterator) (vec_items l.complaints) l.invariant.0 l.invariant.1 (c.in-Some.position, c.in-Some.line.now) (lines_left c.next.new.self) c.add-judged.result
    c.in-Some.ensures.steps (c.add-judged.ensures.value ∙ ap (fault_of l.given) c.parse.ensures) c.in_err-note.ensures)

pub returns-in_err-lack_all-clause-told : goal.returns-in_err-lack_all-clause-told
returns-in_err-lack_all-clause-told c =
    let l = c.loop-position in
    let p = err_from_is_err_and c.from_residual-in_err-lack_all.result c.from_residual-in_err-lack_all.ensures.1 in
    rw (p.1, p.2) (lacks c.args.text.now l.given (lines_left l.position-iterator) (vec_items l.complaints) l.invariant.0 l.invariant.1 c.in-None.ensures.steps.0 c.in_err-lack_all.ensures)

pub returns-in-Some-script-clause-told : goal.returns-in-Some-script-clause-told
returns-in-Some-script-clause-told c =
    let l = c.loop-position in
    let v = c.lack_all.new.complaints in
    told_good c.args.text.now l.given (lines_left l.position-iterator) (vec_items l.complaints) l.invariant.0 l.invariant.1 c.in-None.ensures.steps.0 (vec_items v) c.in_ok-lack_all.ensures c.in-Some-script.script
    (sym c.in-Some-script.ensures) (sym v.ok.0 ∙ eqb-true (vec_len v) 0 (sym c.if-is_empty.ensures))

pub returns-in-Some-script-clause-judged : goal.returns-in-Some-script-clause-judged
returns-in-Some-script-clause-judged c = subst (Judged c.args.text.now) (sym (returns-in-Some-script-clause-told c)) (judged c.args.text.now)

pub returns-in_default-clause-told : goal.returns-in_default-clause-told
returns-in_default-clause-told c =
    let l = c.loop-position in
    let v = c.lack_all.new.complaints in
    told_bad c.args.text.now l.given (lines_left l.position-iterator) (vec_items l.complaints) l.invariant.0 l.invariant.1 c.in-None.ensures.steps.0 (vec_items v) c.in_ok-lack_all.ensures
    (λ none.
    let set = told_set c.args.text.now l.given (lines_left l.position-iterator) (vec_items l.complaints) l.invariant.0 l.invariant.1 c.in-None.ensures.steps.0 (vec_items v) c.in_ok-lack_all.ensures none in
    elim c.in_default.branch [
      | in_default-via-in-Some-script+else-is_empty w ↦ eqb-false (vec_len v) 0 (sym w.if-is_empty.ensures) (v.ok.0 ∙ ap length none)
      | in_default-via-in_default w ↦ w.in_default.not-Some _ (c.script.ensures ∙ set)
    ])

pub returns-in_default-clause-judged : goal.returns-in_default-clause-judged
returns-in_default-clause-judged c = subst (Judged c.args.text.now) (sym (returns-in_default-clause-told c)) (judged c.args.text.now)
