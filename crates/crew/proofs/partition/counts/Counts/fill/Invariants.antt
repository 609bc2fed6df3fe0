use Rattle.std.proofs.Common.{◌≡◌, ℕ, ◌<◌, ◌≤◌, length, get_or, take, vec_items, vec_len}
use Rattle.crew.specs.Shared.{nowhere, owner_from}
use Rattle.crew.proofs.partition.counts.Counts.fill.Given as goal

abbrev pub invariant-loop-stretch : goal.invariant-loop-stretch
invariant-loop-stretch l = ((v : ℕ) → v < vec_len l.owners → get_or (vec_items l.owners) v 0 ≡ owner_from 0 (take l.stretch-index l.stretches) v) × ((v : ℕ) → vec_len l.owners ≤ v → owner_from 0 (take l.stretch-index l.stretches) v ≡ l.worker) × (vec_len l.owners ≤ l.self.places) × (l.stretch-index < length l.stretches → vec_len l.owners ≤ (get_or l.stretches l.stretch-index nowhere).first.0)
