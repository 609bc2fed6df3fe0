-- The words that are left in a line.
-- Assumes nothing.
use Rattle.std.specs.Prelude.{ℕ, List}
use Rattle.script.specs.declared.words.Words.{Words}
use Rattle.script.specs.Text.{spaced}

abbrev pub words_left : Words → List (List ℕ)
words_left w = spaced w.rest.now
