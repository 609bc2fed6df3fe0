-- The table of cases, and that every row comes to what it expects.
-- Assumes nothing.
use Rattle.std.specs.Prelude.{ℕ, ◌+◌, ◌/◌, ◌%◌, true, false, List, [], ◌∷◌, ◌++◌, map, length}
use Rattle.std.specs.List.{AllByRecursion}
use Rattle.meaning.specs.Meaning.{Letter, Program}
use Rattle.cases.specs.Rows.{state, letters, resting, over}
use Rattle.cases.specs.Table as Alone
use Rattle.crew.specs.Messages.{Batch}
use Rattle.plans.specs.Sum.{adding}
use Rattle.runs.specs.Played.{Event, Up, Works, Hears, Crash}
use Rattle.runs.specs.Tour.{a_round, times, joins}
use Rattle.crew_cases.specs.Rows.{Row, alone, crew, Expected, as_one, worker, foreman, comes_to, Holds}

-- places 0 and 1 are worker 0's, and 2 is worker 1's
abbrev pub two : Program → List Event → List Expected → Row
two q xs es = crew (record { places = 3; program = q; workers = 2; owner = λ v. v / 2 }) xs es

-- each place writes down the round and how many letters came, and always sends the next place a letter
abbrev pub walking : Program
walking = record { first = λ v. []; does = λ x. record { state = x.round ∷ length x.letters ∷ []; sends = record { to = (x.place + 1) % 3; bytes = x.round ∷ [] } ∷ []; rests = true } }

-- everybody comes up, and so many rounds are done
abbrev pub after : ℕ → List Event
after c = Up 0 ∷ Up 1 ∷ Up 64 ∷ times c a_round

-- worker 0 crashes and comes up, and the foreman hears of it
abbrev pub crash : List Event
crash = Crash 0 ∷ Up 0 ∷ joins

abbrev pub letter : (from to : ℕ) → Letter
letter u v = record { from = u; to = v; bytes = [] }

abbrev pub crews : List Row
crews =
    -- a crew of two adds up as one alone does
    two (adding (record {})) (after 1) (as_one (letters 0 (0 ∷ 1 ∷ 2 ∷ [])) ∷ as_one (letters 1 []) ∷ as_one (resting true) ∷ as_one (over false) ∷ [])
    ∷ two (adding (record {})) (after 2) (as_one (state 0 (0 ∷ 0 ∷ 0 ∷ 3 ∷ [])) ∷ as_one (letters 0 []) ∷ as_one (resting true) ∷ as_one (over true) ∷ [])
    -- worker 1's batch of round 0 comes to worker 0 in round 1: it is passed over, and that of round 1 is taken
    ∷ two walking (after 1) (worker 0 0 1 ∷ comes_to 0 1 (Batch 0 0 1 0 (letter 2 0 ∷ [])) 2 ∷ comes_to 0 1 (Batch 0 1 1 0 (letter 2 0 ∷ [])) 0 ∷ [])
    -- a batch with a letter from a place of another worker
    ∷ two walking (after 1) (comes_to 0 1 (Batch 0 1 1 0 (letter 1 0 ∷ [])) 4 ∷ [])
    -- worker 0 crashes in round 12, and both have a checkpoint of 8: attempt 1, both at 8, and round 12 comes to what it was
    ∷ two walking (after 12) (worker 0 0 12 ∷ worker 1 0 12 ∷ as_one (state 0 (11 ∷ 1 ∷ [])) ∷ as_one (letters 0 (2 ∷ [])) ∷ [])
    ∷ two walking (after 12 ++ crash) (foreman 1 8 8 ∷ worker 0 1 8 ∷ worker 1 1 8 ∷ as_one (state 0 (7 ∷ 1 ∷ [])) ∷ [])
    ∷ two walking (after 12 ++ crash ++ times 4 a_round) (worker 0 1 12 ∷ worker 1 1 12 ∷ as_one (state 0 (11 ∷ 1 ∷ [])) ∷ as_one (letters 0 (2 ∷ [])) ∷ [])
    -- worker 1 has a checkpoint of 16 and worker 0 has not, since it crashes before it goes on: attempt 1 is from 8
    ∷ two walking (after 15 ++ Works 0 ∷ Works 1 ∷ Hears 0 ∷ Hears 1 ∷ Hears 64 ∷ Hears 1 ∷ []) (worker 0 0 15 ∷ worker 1 0 16 ∷ [])
    ∷ two walking (after 15 ++ Works 0 ∷ Works 1 ∷ Hears 0 ∷ Hears 1 ∷ Hears 64 ∷ Hears 1 ∷ crash) (foreman 1 8 8 ∷ worker 0 1 8 ∷ worker 1 1 8 ∷ [])
    ∷ []

-- the cases of one machine alone, and those of crews
abbrev pub table : List Row
table = map alone Alone.table ++ crews

abbrev pub EveryRowHolds : Type 0
EveryRowHolds = AllByRecursion Holds table
