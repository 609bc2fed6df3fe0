-- What is printed of how a crew fared.
-- Assumes nothing.
use Rattle.std.specs.Prelude.{ℕ, List, ◌++◌, codes, decimal}
use Rattle.crew_script.specs.declared.tallies.Tally.{Tally}

abbrev pub count_text : List ℕ → ℕ → List ℕ
count_text label n = label ++ decimal n

abbrev pub counts_text : Tally → List ℕ
counts_text c =
    count_text (codes "given ") c.given
    ++ (count_text (codes ", lost ") c.lost
    ++ (count_text (codes ", doubled ") c.doubled
    ++ (count_text (codes ", late ") c.late
    ++ (count_text (codes ", cut ") c.cut
    ++ (count_text (codes ", attempts ") c.attempts
    ++ (count_text (codes ", noted ") c.noted
    ++ codes "\n"))))))
