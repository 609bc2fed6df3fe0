-- Where a worker is in its attempt, as the model has it.
-- Assumes nothing.
use Rattle.std.specs.Prelude.{Bool, true, false, Some, None, Option}
use Rattle.meaning.specs.Meaning.{View}
use Rattle.workers.specs.declared.phase.Phase.{Phase}
use Rattle.workers.specs.declared.phase.Phase.TheVariants.{Out, Idle, Worked, Over}

-- it is in its attempt
abbrev pub is_in : Phase → Bool
is_in Out = false
is_in Idle = true
is_in Worked = true
is_in Over = true

-- it was told that it is over
abbrev pub is_over : Phase → Bool
is_over Out = false
is_over Idle = false
is_over Worked = false
is_over Over = true

-- what it worked, once it has
abbrev pub worked_in : Phase → View → Option View
worked_in Out v = None
worked_in Idle v = None
worked_in Worked v = Some v
worked_in Over v = None
