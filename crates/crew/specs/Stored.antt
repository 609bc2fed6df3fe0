-- Messages and records as they are stored.
-- Assumes nothing.
use Rattle.std.specs.Prelude.{List, map, vec_items}
use Rattle.packed.specs.Strings.{items}
use Rattle.meaning.specs.Meaning.{Letter, View}
use Rattle.meaning.specs.Packets.{letters_of}
use Rattle.crew.specs.Journals as J
use Rattle.crew.specs.Messages as M
use Rattle.crew.specs.declared.journal.Note.{Note}
use Rattle.crew.specs.declared.journal.Note.TheVariants as note
use Rattle.crew.specs.declared.journal.Record.{Record}
use Rattle.crew.specs.declared.journal.Record.TheVariants as record'
use Rattle.crew.specs.declared.journal.Share.{Share}
use Rattle.crew.specs.declared.message.Kind.{Kind}
use Rattle.crew.specs.declared.message.Kind.TheVariants as kind
use Rattle.crew.specs.declared.message.Parcel.{Parcel}

abbrev pub message_of : Kind → List Letter → M.Message
message_of (kind.Batch b) ls = M.Batch b.attempt.0 b.round.0 b.from.0 b.to.0 ls
message_of (kind.Ready y) ls = M.Ready y.attempt.0 y.round.0 y.over
message_of (kind.Go g) ls = M.Go g.attempt.0 g.round.0 g.noted.0 g.over
message_of (kind.Anew a) ls = M.Anew a.attempt.0 a.round.0
message_of (kind.PutBy p) ls = M.PutBy p.attempt.0 p.round.0
message_of (kind.Hello h) ls = M.Hello h.attempt.0

abbrev pub parcel_of : Parcel → M.Parcel
parcel_of p = record { from = p.from.0; to = p.to.0; message = message_of p.kind (letters_of p.letters) }

abbrev pub view_of : Share → View
view_of s = record { states = items s.states; rests = vec_items s.rests; post = letters_of s.letters }

abbrev pub record_of : Record → J.Record
record_of (record'.Checkpoint r s) = J.Checkpoint r.0 (view_of s)
record_of (record'.Joined k) = J.Joined k.0

abbrev pub note_of : Note → J.Note
note_of (note.Began k) = J.Began k.0
note_of (note.Noted r) = J.Noted r.0

abbrev pub parcels_of : List Parcel → List M.Parcel
parcels_of = map parcel_of

abbrev pub records_of : List Record → List J.Record
records_of = map record_of

abbrev pub notes_of : List Note → List J.Note
notes_of = map note_of
