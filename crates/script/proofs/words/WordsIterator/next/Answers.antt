use Rattle.std.proofs.Common.{◌≡◌, ℕ, ◌-◌, ◌<◌, List, length, take, drop, ap, arith, rules}
use Rattle.std.proofs.lemmas.List.Sums.{position_or_len_is}
use Rattle.std.specs.List.{position_or_len}
use Rattle.script.specs.Text.{is_blank}
use Rattle.script.proofs.Splitting.{solid, word_none, word_next}
use Rattle.script.proofs.words.WordsIterator.next.Goals as goal

pub returns-in_err-start-clause-steps : goal.returns-in_err-start-clause-steps
returns-in_err-start-clause-steps c =
    let xs : List ℕ = c.args.self.now.rest.now in
    let none = word_none is_blank xs (position_or_len_is (solid is_blank) xs (length xs) 0 (omega arith) (search rules) (search rules)) in
    rw c.from_residual.ensures (none, none)

pub returns-clause-steps : goal.returns-clause-steps
returns-clause-steps c =
    let xs : List ℕ = c.args.self.now.rest.now in
    let s : ℕ = c.in_ok-start.start in
    let ys : List ℕ = take (length xs - s) (drop s xs) in
    let some : s < length xs = search rules in
    let begins : position_or_len (solid is_blank) xs ≡ s = position_or_len_is (solid is_blank) xs s 0 (omega arith) (search rules) (search rules) in
    let ends : position_or_len is_blank ys ≡ c.unwrap_or-end.result = position_or_len_is is_blank ys c.unwrap_or-end.result 0 (search rules) (search rules) (search rules) in
    word_next is_blank xs s c.unwrap_or-end.result begins some ends

pub returns-clause-goes : goal.returns-clause-goes
returns-clause-goes c =
    let shorter = ap length (returns-clause-steps c) in
    search rules
