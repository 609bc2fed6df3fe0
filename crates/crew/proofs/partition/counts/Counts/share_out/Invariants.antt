use Rattle.std.proofs.Common.{◌≡◌, ℕ, ◌+◌, ◌<◌, ◌≤◌, get_or, vec_items, vec_len}
use Rattle.crew.specs.Shared.{share_start}
use Rattle.crew.proofs.partition.counts.Counts.share_out.Given as goal

abbrev pub invariant-loop-worker : goal.invariant-loop-worker
invariant-loop-worker l = (vec_len l.owners ≡ share_start l.self.places l.self.workers l.worker) × ((v : ℕ) → v < vec_len l.owners → get_or (vec_items l.owners) v 0 < l.self.workers) × ((u v : ℕ) → u < l.worker → share_start l.self.places l.self.workers u ≤ v → v < share_start l.self.places l.self.workers (u + 1) → get_or (vec_items l.owners) v 0 ≡ u)
