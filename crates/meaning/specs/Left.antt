-- What an iterator over letters has before it.
-- Assumes nothing.
use Rattle.std.specs.Prelude.{List, drop}
use Rattle.std.specs.Slice.Iter.{iter_rest}
use Rattle.packed.specs.Left.{strings_left}
use Rattle.meaning.specs.Mail.{received}
use Rattle.meaning.specs.Meaning.{Letter, letters_for}
use Rattle.meaning.specs.Packets.{paired}
use Rattle.meaning.specs.declared.letters.Iter.{Iter}
use Rattle.meaning.specs.declared.inbox.LettersTo.{LettersTo}

-- letters in order
abbrev pub letters_left : Iter → List Letter
letters_left s = paired (iter_rest s.heads) (strings_left s.bodies)

-- those of one place
abbrev pub place_letters_left : LettersTo → List Letter
place_letters_left s = drop s.next (letters_for s.place.0 (received s.inbox.now))
