use Rattle.std.proofs.Common.{length, ap, rules}
use Rattle.script.proofs.Lining.{line_step}
use Rattle.script.proofs.lines.LinesIterator.next.Goals as goal

pub returns-clause-steps : goal.returns-clause-steps
returns-clause-steps c =
    let s = c.args.self.now in
    line_step s.text.now s.line s.start (search rules) c.until_newline.result c.until_newline.ensures.value c.until_newline.ensures.within

pub returns-clause-goes : goal.returns-clause-goes
returns-clause-goes c =
    let shorter = ap length (returns-clause-steps c) in
    search rules
