-- What places came to in a round, as it is stored.
-- Assumes nothing.
use Rattle.std.specs.Prelude.{ℕ, vec_items}
use Rattle.packed.specs.Strings.{items}
use Rattle.meaning.specs.Mail.{post_of}
use Rattle.meaning.specs.Meaning.{View}
use Rattle.rounds.specs.declared.worked.Worked.{Worked}

abbrev pub worked_of : Worked → View
worked_of w = record { states = items w.standing.states; rests = vec_items w.standing.rests; post = (post_of w.out).letters }

abbrev pub places_of : Worked → ℕ
places_of w = (post_of w.out).places
