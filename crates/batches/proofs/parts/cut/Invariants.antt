use Rattle.std.proofs.Common.{◌≡◌, ◌++◌, map, vec_items}
use Rattle.meaning.specs.Left.{letters_left}
use Rattle.meaning.specs.Packets.{letters_of, received_of}
use Rattle.crew.specs.Shared.{owner_of}
use Rattle.batches.specs.Sharing.{parts_of}
use Rattle.batches.proofs.parts.cut.Given as goal

abbrev pub invariant-loop-letter : goal.invariant-loop-letter
invariant-loop-letter l =
    (goal.iterator-loop-letter).can_next l.letter-iterator
    × (goal.iterator-loop-letter).is_finite l.letter-iterator
    × (map letters_of (vec_items l.parts) ≡ parts_of (owner_of l.table) l.table.workers (map received_of l.yielded))
    × (letters_of l.letters ≡ map received_of l.yielded ++ letters_left l.letter-iterator)
