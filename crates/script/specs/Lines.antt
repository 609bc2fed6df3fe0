-- A script's lines, and where each lies.
-- Assumes nothing.
use Rattle.std.specs.Prelude.{ℕ, ◌+◌, cond, List, [], ◌∷◌, length, drop, nat_le}
use Rattle.std.specs.Borrow.{Bor}
use Rattle.script.specs.declared.lines.Position.{Position}
use Rattle.script.specs.declared.lines.Lines.{Lines}
use Rattle.script.specs.Text.{lines_of}

-- lines from number n on, the first of which begins at place i
abbrev pub placed : (n i : ℕ) → List (List ℕ) → List (Position × List ℕ)
placed n i [] = []
placed n i (l ∷ ls) = (record { line = n; start = i; end = i + length l }, l) ∷ placed (n + 1) (i + length l + 1) ls

abbrev pub lines_in : List ℕ → List (Position × List ℕ)
lines_in text = placed 1 0 (lines_of text)

-- what an item is, with its text as bytes
abbrev pub shown : Position × Bor (List ℕ) → Position × List ℕ
shown l = (l.0, l.1.now)

-- from place i of a text on; past its end there is none
abbrev pub left_from : List ℕ → ℕ → ℕ → List (Position × List ℕ)
left_from text n i = cond (nat_le i (length text)) (placed n i (lines_of (drop i text))) []

abbrev pub lines_left : Lines → List (Position × List ℕ)
lines_left s = left_from s.text.now s.line s.start
