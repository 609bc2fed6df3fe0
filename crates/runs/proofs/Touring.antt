-- The run with everything in it, computed.
-- Assumes nothing.
use Rattle.std.proofs.Common.{refl}
use Rattle.runs.specs.Tour.{NotEmpty, pair, ended}
use Rattle.runs.proofs.Playing.{played}

pub not_empty : NotEmpty
not_empty = record { reached = played pair ended; runs = refl; first = refl; begins = refl; crashed = refl; other = refl; restarts = refl; ends = refl; told = refl; too = refl }
