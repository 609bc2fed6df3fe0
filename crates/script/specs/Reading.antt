-- What reading a script comes to, whatever it asks for and whatever may be bad in it.
-- Assumes nothing.
use Rattle.std.specs.Prelude.{List, [], ◌∷◌, Some, None, Ok, Err, vec_items, Option, Result}
use Rattle.script.specs.declared.lines.Position.{Position}
use Rattle.script.specs.declared.complaints.Complaint.{Complaint}
use Rattle.script.specs.declared.complaints.Unread.{Unread}
use Rattle.script.specs.declared.complaints.Unread.TheVariants.{Bad, Memory}

-- the complaint, where something was judged bad
abbrev pub noted : {E : Type 0} → Option Position → Result (Unit {0}) E → List (Complaint E)
noted p (Ok u) = []
noted p (Err e) = record { expected = e; position = p } ∷ []

-- a statement that no line gave
abbrev pub lacking : {X E : Type 0} → Option X → E → List (Complaint E)
lacking None e = noted None (Err e)
lacking (Some x) e = []

-- What a script is: good with what it asks for, or bad with its complaints.
pub data Outcome (S E : Type 0) : Type 0 where
  good : S → Outcome S E
  bad : List (Complaint E) → Outcome S E

abbrev pub outcome : {S E : Type 0} → S → List (Complaint E) → Outcome S E
outcome s [] = good s
outcome s (c ∷ cs) = bad (c ∷ cs)

abbrev pub IsBad : {S E : Type 0} → Outcome S E → Type 0
IsBad (good s) = ⊥
IsBad (bad cs) = Unit {0}

-- what the code answers, as an outcome; none where it wants memory
abbrev pub told_by : {S E : Type 0} → Result S (Unread E) → Option (Outcome S E)
told_by (Ok s) = Some (good s)
told_by (Err (Bad v)) = Some (bad (vec_items v))
told_by (Err (Memory e)) = None
