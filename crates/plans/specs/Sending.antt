-- One letter to several places.
-- Assumes nothing.
use Rattle.std.specs.Prelude.{ℕ, List, [], Some, None, Option}
use Rattle.std.specs.List.{flat_map}
use Rattle.meaning.specs.Mail.{one_to}
use Rattle.meaning.specs.Meaning.{Sent}

abbrev pub to_one : List ℕ → Option ℕ → List Sent
to_one bytes None = []
to_one bytes (Some v) = one_to v bytes

-- to each of these that there is
abbrev pub to_each : List ℕ → List (Option ℕ) → List Sent
to_each bytes places = flat_map (to_one bytes) places
