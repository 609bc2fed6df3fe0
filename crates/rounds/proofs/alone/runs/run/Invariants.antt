use Rattle.std.proofs.Common.{◌≡◌, ◌-◌, ◌≤◌}
use Rattle.meaning.specs.Caps.{place_cap}
use Rattle.meaning.specs.Meaning.{ends_from}
use Rattle.rounds.specs.Run.{Stands}
use Rattle.rounds.proofs.alone.runs.run.Given as goal

abbrev pub invariant-loop : goal.invariant-loop
invariant-loop g l = (l.places ≤ place_cap) × Stands l.places (g.P.Plan.program l.plan) l.all × (ends_from l.places (g.P.Plan.program l.plan) l.all.round.0 (l.end - l.counter) ≡ ends_from l.places (g.P.Plan.program l.plan) 0 l.end) × (l.all.round.0 ≤ l.counter)
