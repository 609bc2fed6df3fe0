-- Which events are drawn from a seed.
-- Assumes nothing.
use Rattle.std.specs.Prelude.{ℕ, ◌+◌, ◌*◌, ◌/◌, ◌%◌, ◌^◌, cond, None, nat_lt}
use Rattle.crew_script.specs.declared.settings.Machine.{Machine}
use Rattle.crew_script.specs.declared.settings.Machine.TheVariants.{Worker, Foreman}
use Rattle.crew_script.specs.declared.settings.Event.{Event}
use Rattle.crew_script.specs.declared.settings.Event.TheVariants.{Tick, Up, Cut, Give, Lose, Twice, Late}

-- a linear congruential generator; the first state is the seed
abbrev pub state_after : ℕ → ℕ
state_after h = (h * 6364136223846793005 + 1442695040888963407) % 2 ^ 64

-- one of the workers, or the foreman
abbrev pub machine_at : (rest workers : ℕ) → Machine
machine_at y m = cond (nat_lt (y % (m + 1)) m) (Worker (y % (m + 1))) Foreman

-- of 256 draws 182 give, 10 lose, 10 are twice, 20 late, 12 tick, 20 up and 2 cut
abbrev pub event_by : (kind rest workers : ℕ) → Event
event_by d y m =
    cond (nat_lt d 182) Give
    (cond (nat_lt d 192) Lose
    (cond (nat_lt d 202) Twice
    (cond (nat_lt d 222) (Late (y % 8))
    (cond (nat_lt d 234) (Tick (machine_at y m))
    (cond (nat_lt d 254) (Up (machine_at y m))
    (Cut (machine_at y m) None))))))

-- the lowest byte of the upper half is the kind, and what is above it the rest
abbrev pub event_at : (state workers : ℕ) → Event
event_at h m = event_by (h / 4294967296 % 256) (h / 1099511627776) m
