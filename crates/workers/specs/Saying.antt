-- The batches of a round, one to each worker.
-- Assumes nothing.
use Rattle.std.specs.Prelude.{ℕ, ◌+◌, List, [], ◌∷◌}
use Rattle.meaning.specs.Meaning.{Letter}
use Rattle.crew.specs.Messages.{Parcel, Batch}

abbrev pub batch_with : (i attempt round j : ℕ) → List Letter → Parcel
batch_with i k r j ls = record { from = i; to = j; message = Batch k r i j ls }

-- from worker j on, one after the other
abbrev pub batches_from : (i attempt round j : ℕ) → List (List Letter) → List Parcel
batches_from i k r j [] = []
batches_from i k r j (ls ∷ lss) = batch_with i k r j ls ∷ batches_from i k r (j + 1) lss
