-- What letters that came are judged by.
-- Assumes nothing.
use Rattle.std.specs.Prelude.{ℕ, Bool, ◌&&◌, List, ◌==◌, nat_lt}
use Rattle.meaning.specs.Meaning.{Letter}
use Rattle.crew.specs.Worker.{all_letters}

-- from places that are there, and to such
abbrev pub named : (places : ℕ) → List Letter → Bool
named n = all_letters (λ (l : Letter). nat_lt l.from n && nat_lt l.to n)

-- all from places of j and to places of i
abbrev pub between_by : (owner : ℕ → ℕ) → (j i : ℕ) → List Letter → Bool
between_by owner j i = all_letters (λ (l : Letter). (j == owner l.from) && i == owner l.to)
