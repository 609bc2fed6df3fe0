-- Runs that are given by a schedule, and computed by the machines' own calls.
-- Assumes nothing.
use Rattle.std.specs.Prelude.{ℕ, cond, List, [], ◌∷◌, ◌==◌, nat_lt}
use Rattle.crew.specs.Job.{Job}
use Rattle.crew.specs.Messages.{Parcel, foreman_line}
use Rattle.runs.specs.World.{World, Call, Open, Take, Tick, Work, worker_did, worker_cut, foreman_did, foreman_cut}

-- machine j does a call: a worker, or the foreman
abbrev pub does : Job → ℕ → Call → World → World
does b j c w = cond (j == foreman_line) (foreman_did b w c) (cond (nat_lt j b.workers) (worker_did b w j c) w)

-- of these parcels, those for machine j come to it, one after the other
abbrev pub hears : Job → ℕ → List Parcel → World → World
hears b j [] w = w
hears b j (p ∷ ps) w = hears b j ps (cond (j == p.to) (does b j (Take p.from p.message) w) w)

-- Machine j hears again all that was ever said to it, the newest first or the oldest first: everything is doubled and late.
abbrev pub hears_all : Job → ℕ → World → World
hears_all b j w = hears b j w.said w

-- A schedule.
pub data Event : Type 0 where
  Up : (machine : ℕ) → Event
  Tick' : (machine : ℕ) → Event
  Works : (machine : ℕ) → Event
  Hears : (machine : ℕ) → Event
  -- a crash in the middle of a tick: nothing is appended or said
  Crash : (machine : ℕ) → Event

abbrev pub happens : Job → Event → World → World
happens b (Up j) w = does b j Open w
happens b (Tick' j) w = does b j Tick w
happens b (Works j) w = does b j Work w
happens b (Hears j) w = hears_all b j w
happens b (Crash j) w = cond (j == foreman_line) (foreman_cut b w Tick 0 0) (cond (nat_lt j b.workers) (worker_cut b w j Tick 0 0) w)

abbrev pub plays : Job → List Event → World → World
plays b [] w = w
plays b (e ∷ es) w = plays b es (happens b e w)
