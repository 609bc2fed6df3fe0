-- What is printed of places.
-- Assumes nothing.
use Rattle.std.specs.Prelude.{ℕ, Bool, true, false, List, ◌++◌, map, codes}
use Rattle.std.specs.List.{concat, range_with_len}
use Rattle.meaning.specs.Meaning.{Program, World, rounds, ends_from}
use Rattle.script.specs.Output.{head_text, line_text}

-- the line of a place
abbrev pub place_text : World → ℕ → List ℕ
place_text w v = line_text v (w.rests v) (w.state v)

-- of n places after r rounds: a line that says how many rounds, and a line for each place, by rising number
abbrev pub printed : (n r : ℕ) → World → List ℕ
printed n r w = head_text r ++ concat (map (place_text w) (range_with_len 0 n))

-- of a run of n places, of so many rounds at most
abbrev pub played : (n : ℕ) → Program → (budget : ℕ) → List ℕ
played n q budget = printed n (ends_from n q 0 budget) (rounds n q (ends_from n q 0 budget))

-- how it is said whether a run is over
abbrev pub end_text : Bool → List ℕ
end_text true = codes "over"
end_text false = codes "not over"
