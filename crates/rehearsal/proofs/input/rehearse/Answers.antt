use Rattle.std.proofs.Common.{Err, refl, subst}
use Rattle.rehearsal.proofs.input.rehearse.Goals as goal

pub returns-in-Ok-clause-played : goal.returns-in-Ok-clause-played
returns-in-Ok-clause-played g c = λ _. (c.alloc-2.result, c.as_slice.result, c.in-Ok.script, c.in-Ok.ensures, (_, c.in_ok-play-in-Ok.ensures, refl))

pub returns-in-Err-Bad-clause-bad : goal.returns-in-Err-Bad-clause-bad
returns-in-Err-Bad-clause-bad g c = λ _.
    let read = g.R.FnOnce.post c.args.read (c.alloc-2.result, (c.as_slice.result, tt)) in
    (c.alloc-2.result, c.as_slice.result, c.in-Err-Bad.complaints, subst (λ e. read (Err e)) c.in-Err-Bad.field-0-is c.in-Err-Bad.ensures)
