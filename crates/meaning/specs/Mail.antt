-- The outbox that a plan sends by, and the inbox that it reads.
-- Assumes nothing.
use Rattle.std.specs.Prelude.{ℕ, ◌-◌, List, [], ◌∷◌, ◌++◌, length}
use Rattle.meaning.specs.Meaning.{Letter, Sent, posted}
use Rattle.meaning.specs.Packets.{letters_of}
use Rattle.meaning.specs.declared.inbox.Inbox.{Inbox}
use Rattle.meaning.specs.declared.outbox.Outbox.{Outbox}

-- of how many places, who sends, how many letters it may still send, and all letters so far
pub record Post : Type 0 where
  pub places : ℕ
  pub from : ℕ
  pub left : ℕ
  pub letters : List Letter

abbrev pub post_of : Outbox → Post
post_of o = record { places = o.places; from = o.from.0; left = o.left; letters = letters_of o.letters }

-- after sending these: letters to places that aren't there are dropped, and count
abbrev pub mailed : Post → List Sent → Post
mailed o ss = record { places = o.places; from = o.from; left = o.left - length ss; letters = o.letters ++ posted o.places o.from ss }

-- with no letter, and nobody who may send
abbrev pub emptied : Post → Post
emptied o = record { places = o.places; from = o.from; left = 0; letters = [] }

abbrev pub one_to : ℕ → List ℕ → List Sent
one_to to bytes = record { to = to; bytes = bytes } ∷ []

-- all letters of an inbox, by rising senders
abbrev pub received : Inbox → List Letter
received i = letters_of i.letters
