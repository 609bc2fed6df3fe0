-- A run with everything in it, so that the promises are not empty talk.
-- Assumes nothing.
use Rattle.std.specs.Prelude.{◌≡◌, ℕ, zero, suc, ◌+◌, ◌%◌, Bool, true, false, cond, List, [], ◌∷◌, ◌++◌, length, Some, None, Option, nat_lt}
use Rattle.meaning.specs.Meaning.{Program}
use Rattle.crew.specs.Job.{Job}
use Rattle.crew.specs.Foreman.{Foreman}
use Rattle.crew.specs.Worker.{Worker}
use Rattle.runs.specs.World.{Reach, began}
use Rattle.runs.specs.Played.{Event, Up, Works, Hears, Crash, plays}

-- Each place writes down the round and how many letters came, and sends the next place a letter, up to round 12.
abbrev pub walking : Program
walking = record { first = λ v. v ∷ []; does = λ x. record { state = x.round ∷ length x.letters ∷ []; sends = cond (nat_lt x.round 13) (record { to = (x.place + 1) % 3; bytes = x.round ∷ [] } ∷ []) []; rests = true } }

abbrev pub pair : Job
pair = record { places = 3; program = walking; workers = 2; owner = λ v. v % 2 }

abbrev pub a_round : List Event
a_round = Works 0 ∷ Works 1 ∷ Hears 0 ∷ Hears 1 ∷ Hears 64 ∷ Hears 0 ∷ Hears 1 ∷ []

abbrev pub times : ℕ → List Event → List Event
times zero es = []
times (suc c) es = es ++ times c es

-- the foreman begins anew, and workers join
abbrev pub joins : List Event
joins = Hears 64 ∷ Hears 0 ∷ Hears 1 ∷ []

-- Twelve rounds, of which 8 is put by and noted.
abbrev pub twelve : List Event
twelve = Up 0 ∷ Up 1 ∷ Up 64 ∷ times 12 a_round

-- Worker 0 crashes in round 12 and comes up.
abbrev pub rejoined : List Event
rejoined = twelve ++ Crash 0 ∷ Up 0 ∷ joins

-- Two rounds on, the foreman crashes and comes up.
abbrev pub restarted : List Event
restarted = rejoined ++ times 2 a_round ++ Crash 64 ∷ Up 64 ∷ joins

abbrev pub ended : List Event
ended = restarted ++ times 6 a_round

-- of the foreman: attempt, the round that it began from, the round that it awaits, the noted round, and whether it is over
pub record Pace : Type 0 where
  pub attempt : ℕ
  pub start : ℕ
  pub at : ℕ
  pub noted : ℕ
  pub over : Bool

abbrev pub pace_of : Option Foreman → Option Pace
pace_of None = None
pace_of (Some f) = Some (record { attempt = f.attempt; start = f.start; at = f.at; noted = f.noted; over = f.over })

-- of a worker: whether it is in its attempt, attempt, round, its places' states, and whether it was told that it is over
pub record Stand : Type 0 where
  pub joined : Bool
  pub attempt : ℕ
  pub round : ℕ
  pub states : List (List ℕ)
  pub over : Bool

abbrev pub stand_of : Option Worker → Option Stand
stand_of None = None
stand_of (Some x) = Some (record { joined = x.joined; attempt = x.attempt; round = x.round; states = x.share.states; over = x.over })

abbrev pub foreman_after : List Event → Option Pace
foreman_after es = pace_of (plays pair es began).foreman.up

abbrev pub worker_after : List Event → (i : ℕ) → Option Stand
worker_after es i = stand_of ((plays pair es began).worker i).up

-- in an attempt, after so many rounds, with these states
abbrev pub standing : (attempt round : ℕ) → List (List ℕ) → (over : Bool) → Option Stand
standing k r ss e = Some (record { joined = true; attempt = k; round = r; states = ss; over = e })

-- what each place wrote down in a round
abbrev pub wrote : (round : ℕ) → List ℕ
wrote r = r ∷ 1 ∷ []

-- 6. NOT EMPTY. This is a run, in which all that was said comes again and again: a crash in round 12 and a rejoin from 8, a
-- restart of the foreman, and over, which all are told.
pub record NotEmpty : Type 0 where
  pub reached : Reach pair (plays pair ended began)
  pub runs : foreman_after twelve ≡ Some (record { attempt = 0; start = 0; at = 12; noted = 8; over = false })
  pub first : worker_after twelve 0 ≡ standing 0 12 (wrote 11 ∷ wrote 11 ∷ []) false
  pub begins : foreman_after rejoined ≡ Some (record { attempt = 1; start = 8; at = 8; noted = 8; over = false })
  pub crashed : worker_after rejoined 0 ≡ standing 1 8 (wrote 7 ∷ wrote 7 ∷ []) false
  pub other : worker_after rejoined 1 ≡ standing 1 8 (wrote 7 ∷ []) false
  pub restarts : foreman_after restarted ≡ Some (record { attempt = 2; start = 8; at = 8; noted = 8; over = false })
  pub ends : foreman_after ended ≡ Some (record { attempt = 2; start = 8; at = 14; noted = 8; over = true })
  pub told : worker_after ended 0 ≡ standing 2 14 (wrote 13 ∷ wrote 13 ∷ []) true
  pub too : worker_after ended 1 ≡ standing 2 14 (wrote 13 ∷ []) true
