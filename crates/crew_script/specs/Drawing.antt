-- How events come from a seed, one after the other.
-- Assumes nothing.
use Rattle.std.specs.Prelude.{◌≡◌, ℕ, Some, Option}
use Rattle.crew_script.specs.declared.settings.Event.{Event}
use Rattle.crew_script.specs.declared.draws.Draws.{Draws}
use Rattle.crew_script.specs.Draws.{event_at, state_after}

abbrev pub begun : (seed workers : ℕ) → Draws
begun s m = record { state = s; workers = m }

-- one draw: the state moves on, and the event is what it says then
abbrev pub Draw : Draws → Option Event → Draws → Type 0
Draw a r b = (b ≡ begun (state_after a.state) a.workers) × (r ≡ Some (event_at (state_after a.state) a.workers))
