-- What can befall a crew, as the model has it.
-- Assumes nothing.
use Rattle.crew.specs.Job.{Job}
use Rattle.runs.specs.Crew as C
use Rattle.world.specs.declared.event.Event.{Event}
use Rattle.world.specs.declared.event.Event.TheVariants.{Up, Tick, Work, Crash, Give, Twice, Lose, Late}

abbrev pub happened : Job → Event → C.Crew → C.Crew
happened b (Up j) s = C.brought_up b j.0 s
happened b (Tick j) s = C.ticked b j.0 s
happened b (Work j) s = C.worked b j.0 s
happened b (Crash j) s = C.crashed b j.0 s
happened b Give s = C.gave b s
happened b Twice s = C.doubled b s
happened b Lose s = C.lost s
happened b (Late k) s = C.delayed k s
