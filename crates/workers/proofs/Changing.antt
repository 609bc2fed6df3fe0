-- A worker with other batches.
use Rattle.std.proofs.Common.{ℕ, List, Option}
use Rattle.meaning.specs.Meaning.{Letter}
use Rattle.crew.specs.Worker as W

abbrev pub with_got : W.Worker → (ℕ → Option (List Letter)) → W.Worker
with_got w g = record { joined = w.joined; attempt = w.attempt; round = w.round; share = w.share; worked = w.worked; got = g; over = w.over; latest = w.latest }
