use Rattle.std.proofs.Common.{length, sym, arith, rules}
use Rattle.std.proofs.lemmas.List.Sums.{position_or_len_is}
use Rattle.script.specs.Text.{is_newline}
use Rattle.script.proofs.lines.until_newline.Goals as goal

pub returns-in-Some-clause-value : goal.returns-in-Some-clause-value
returns-in-Some-clause-value c = sym (position_or_len_is is_newline c.args.text.now c.in-Some.length 0 (search rules) (search rules) (search rules))

pub returns-in-None-clause-value : goal.returns-in-None-clause-value
returns-in-None-clause-value c = sym (position_or_len_is is_newline c.args.text.now (length c.args.text.now) 0 (omega arith) (search rules) (search rules))
