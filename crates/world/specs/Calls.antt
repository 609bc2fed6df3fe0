-- What a machine is told, as the model has it.
-- Assumes nothing.
use Rattle.crew.specs.Stored.{parcel_of}
use Rattle.runs.specs.World as world
use Rattle.world.specs.declared.call.Call.{Call}
use Rattle.world.specs.declared.call.Call.TheVariants.{Open, Take, Tick, Work}

abbrev pub call_of : Call → world.Call
call_of Open = world.Open
call_of (Take p) = world.Take (parcel_of p.now).from (parcel_of p.now).message
call_of Tick = world.Tick
call_of Work = world.Work
