use Rattle.std.proofs.Common.{◌<◌, ◌≤◌, vec_items, vec_len}
use Rattle.std.specs.Io.KnownBytes.{Consumes}
use Rattle.rehearsal.proofs.input.input.Given as goal

abbrev pub invariant-loop : goal.invariant-loop
invariant-loop g l = Consumes (g.R.Read.remaining l.fn.from) (g.R.Read.remaining l.from) (vec_items l.text) × (l.counter ≤ vec_len l.text) × (0 < vec_len l.block)
