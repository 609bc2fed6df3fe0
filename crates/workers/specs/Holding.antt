-- The batches of a round, by who sent them.
-- Assumes nothing.
use Rattle.std.specs.Prelude.{ℕ, List, None, box_value, Option, slice_index_or}
use Rattle.std.specs.Option.{option_map}
use Rattle.meaning.specs.Meaning.{Letter}
use Rattle.meaning.specs.Packets.{letters_of}
use Rattle.workers.specs.declared.got.Got.{Got}

abbrev pub got_of : Got → ℕ → Option (List Letter)
got_of g j = option_map letters_of (slice_index_or (box_value g.slots) j None)
