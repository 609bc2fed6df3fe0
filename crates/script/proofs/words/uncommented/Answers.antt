use Rattle.std.proofs.Common.{ℕ, List, length, take, sym, ap, ◌∙◌, arith, rules, take_all}
use Rattle.std.proofs.lemmas.List.Sums.{position_or_len_is}
use Rattle.script.specs.Text.{is_hash}
use Rattle.script.proofs.words.uncommented.Goals as goal

pub returns-in-Some : goal.returns-in-Some
returns-in-Some c =
    let line : List ℕ = c.args.line.now in
    ap (λ n. take n line) (sym (position_or_len_is is_hash line c.in-Some.end 0 (search rules) (search rules) (search rules)))

pub returns-in-None : goal.returns-in-None
returns-in-None c =
    let line : List ℕ = c.args.line.now in
    sym (ap (λ n. take n line) (position_or_len_is is_hash line (length line) 0 (omega arith) (search rules) (search rules)) ∙ take_all (length line) line (omega arith))
