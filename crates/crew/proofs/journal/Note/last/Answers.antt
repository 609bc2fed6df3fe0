use Rattle.std.proofs.Common.{ℕ, ◌+◌, List, drop, sym, ap, ◌∙◌}
use Rattle.crew.specs.Journals.{last_began, last_noted}
use Rattle.crew.specs.Stored.{notes_of}
use Rattle.crew.specs.declared.journal.Note.{Note}
use Rattle.crew.specs.declared.journal.Note.TheVariants.{Began, Noted}
use Rattle.crew.proofs.Pacing.{read_next}
use Rattle.crew.proofs.journal.Note.last.Goals as goal
use Rattle.crew.proofs.journal.Note.last.Goals.{in-Began, in-Noted}

pub loop-note-preserved : goal.loop-note-preserved
loop-note-preserved c =
    let l = c.loop-note in
    let notes : List Note = c.args.notes.now in
    let i : ℕ = l.note-index in
    let began : List Note → ℕ = λ xs. last_began l.began.0 (notes_of xs) in
    let noted : List Note → ℕ = λ xs. last_noted l.noted.0 (notes_of xs) in
    elim c.match-note.branch [
      | in-Began w ↦ (
        ap (λ k. last_began k.0 (notes_of (drop (i + 1) notes))) w.began-is ∙ sym (read_next began notes i _ (Began w.in-Began.attempt) c.loop-note-test.true w.in-Began.is) ∙ l.invariant.0,
        ap (λ k. last_noted k.0 (notes_of (drop (i + 1) notes))) w.noted-is ∙ sym (read_next noted notes i _ (Began w.in-Began.attempt) c.loop-note-test.true w.in-Began.is) ∙ l.invariant.1,
      )
      | in-Noted w ↦ (
        ap (λ k. last_began k.0 (notes_of (drop (i + 1) notes))) w.began-is ∙ sym (read_next began notes i _ (Noted w.in-Noted.round) c.loop-note-test.true w.in-Noted.is) ∙ l.invariant.0,
        ap (λ k. last_noted k.0 (notes_of (drop (i + 1) notes))) w.noted-is ∙ sym (read_next noted notes i _ (Noted w.in-Noted.round) c.loop-note-test.true w.in-Noted.is) ∙ l.invariant.1,
      )
    ]
