-- A share that is lent, and what there is to begin with.
-- Assumes nothing.
use Rattle.std.specs.Prelude.{ℕ, Bool, ◌||◌, List, is_some, ◌==◌}
use Rattle.std.specs.Borrow.{Bor}
use Rattle.crew.specs.Journals.{Record, checkpoint_of}
use Rattle.crew.specs.Stored.{view_of}
use Rattle.crew.specs.declared.journal.Share.{Share}
use Rattle.meaning.specs.Meaning.{View}

abbrev pub view_in : Bor Share → View
view_in s = view_of s.now

-- there is something to begin with from round r: what the places begin with, or a checkpoint
abbrev pub begins_at : (r : ℕ) → List Record → Bool
begins_at r js = (r == 0) || is_some (checkpoint_of r js)
