-- What a plan is given, as the meaning sees it.
-- Assumes nothing.
use Rattle.std.specs.Prelude.{ℕ, List}
use Rattle.meaning.specs.Meaning.{Letter, Input, letters_for}
use Rattle.meaning.specs.Mail.{received}
use Rattle.meaning.specs.declared.plan.Given.{Given}

-- the letters for the place
abbrev pub letters_at : Given → List Letter
letters_at g = letters_for g.place.0 (received g.inbox.now)

abbrev pub input_of : Given → (state : List ℕ) → Input
input_of g state = record { round = g.round.0; place = g.place.0; state = state; letters = letters_at g }
