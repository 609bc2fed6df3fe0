-- What the code answers, as an outcome.
-- Assumes nothing.
use Rattle.std.specs.Prelude.{Some, None, Ok, Err, vec_items, Option, Result}
use Rattle.script.specs.declared.complaints.Unread.{Unread}
use Rattle.script.specs.declared.complaints.Unread.TheVariants.{Bad, Memory}
use Rattle.script.specs.Reading.{Outcome, good, bad}
use Rattle.crew_script.specs.declared.complaints.Expected.{Expected}
use Rattle.crew_script.specs.declared.settings.Run.{Run}
use Rattle.crew_script.specs.declared.settings.Run.TheVariants.{Alone, Crew}
use Rattle.crew_script.specs.declared.settings.Script.{Script}
use Rattle.crew_script.specs.Asked.{Asked, Players, lone, crew}

abbrev pub players_in : Run → Players
players_in (Alone r) = lone r
players_in (Crew c) = crew c.workers (vec_items c.stretches) (vec_items c.events)

abbrev pub asked_in : Script → Asked
asked_in s = record { places = s.places; plan = s.plan; run = players_in s.run }

-- none where it wants memory
abbrev pub told_by : Result Script (Unread Expected) → Option (Outcome Asked Expected)
told_by (Ok s) = Some (good (asked_in s))
told_by (Err (Bad v)) = Some (bad (vec_items v))
told_by (Err (Memory e)) = None
