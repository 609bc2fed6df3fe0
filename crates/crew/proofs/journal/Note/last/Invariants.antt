use Rattle.std.proofs.Common.{◌≡◌, drop}
use Rattle.crew.specs.Journals.{last_began, last_noted}
use Rattle.crew.specs.Stored.{notes_of}
use Rattle.crew.proofs.journal.Note.last.Given as goal

abbrev pub invariant-loop-note : goal.invariant-loop-note
invariant-loop-note l = (last_began l.began.0 (notes_of (drop l.note-index l.notes)) ≡ last_began 0 (notes_of l.notes)) × (last_noted l.noted.0 (notes_of (drop l.note-index l.notes)) ≡ last_noted 0 (notes_of l.notes))
