use Rattle.std.proofs.Common.{◌≡◌, ℕ, ◌<◌, true}
use Rattle.crew.specs.Shared.{start_before, stands}
use Rattle.crew.proofs.partition.counts.Counts.check.Given as goal

abbrev pub invariant-loop-index : goal.invariant-loop-index
invariant-loop-index l = (l.before ≡ start_before l.stretches l.index) × ((k : ℕ) → k < l.index → stands l.self.places l.self.workers l.stretches k ≡ true)
