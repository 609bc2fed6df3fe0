-- Each event of a crew keeps that some run leads to it.
-- Assumes nothing.
use Rattle.std.proofs.Common.{◌≡◌, sym, subst}
use Rattle.meaning.specs.Meaning.{Program}
use Rattle.crew.specs.Job.{Job}
use Rattle.crew.specs.Shared.{job_of}
use Rattle.crew.specs.declared.partition.Partition.{Partition}
use Rattle.runs.proofs.Leading.{led_fresh, led_up, led_tick, led_work, led_crashed, led_gave, led_doubled, led_lost, led_delayed}
use Rattle.runs.specs.Crew.{Crew, Led, fresh}
use Rattle.world.specs.Events.{happened}
use Rattle.world.specs.Looks.{Reached}
use Rattle.world.specs.Staged.{Leads, crew_of}
use Rattle.world.specs.declared.event.Event.{Event}
use Rattle.world.specs.declared.event.Event.TheVariants.{Up, Tick, Work, Crash, Give, Twice, Lose, Late}
use Rattle.world.specs.declared.state.State.{State}

led_happened : (b : Job) (e : Event) (s : Crew) → Led b s → Led b (happened b e s)
led_happened b (Up j) s = led_up b s j.0
led_happened b (Tick j) s = led_tick b s j.0
led_happened b (Work j) s = led_work b s j.0
led_happened b (Crash j) s = led_crashed b s j.0
led_happened b Give s = led_gave b s
led_happened b Twice s = led_doubled b s
led_happened b Lose s = led_lost b s
led_happened b (Late k) s = led_delayed b k s

pub reach_happened : (q : Program) (e : Event) (s t : State) → Leads (happened (job_of s.table q) e) s t → Reached q s → Reached q t
reach_happened q e s t leads h =
    let b = job_of s.table q in
    subst (λ (p : Partition). Led (job_of p q) (crew_of t)) (sym leads.table) (subst (Led b) (sym leads.crew) (led_happened b e (crew_of s) h))

pub reach_fresh : (q : Program) (s : State) → crew_of s ≡ fresh → Reached q s
reach_fresh q s e = subst (Led (job_of s.table q)) (sym e) (led_fresh (job_of s.table q))
