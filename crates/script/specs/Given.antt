-- What lines say, taken together.
-- Assumes nothing.
use Rattle.std.specs.Prelude.{ℕ, Some, None, Ok, Err, Option, Result}
use Rattle.script.specs.declared.settings.Choice.{Choice}
use Rattle.script.specs.declared.settings.Choice.TheVariants.{Sum}
use Rattle.script.specs.declared.settings.Script.{Script}
use Rattle.script.specs.declared.complaints.Expected.{Expected}
use Rattle.script.specs.declared.complaints.Expected.TheVariants.{FirstWord, Once}
use Rattle.script.specs.declared.statements.Statement.{Statement}
use Rattle.script.specs.declared.statements.Statement.TheVariants.{Nothing, Unknown, Places, Plan, Alone}
use Rattle.script.specs.declared.given.Given.{Given}

-- before the first line
abbrev pub unsaid : Given
unsaid = record { places = None; plan = None; alone = None }

-- what was said first stays
abbrev pub first_of : {X : Type 0} → Option X → X → X
first_of None x = x
first_of (Some y) x = y

-- What is given after one more line. A bad line counts as given, and a second one changes nothing.
abbrev pub added_to : Given → Statement → Given
added_to g Nothing = g
added_to g Unknown = g
added_to g (Places n) = record { places = Some (first_of g.places n); plan = g.plan; alone = g.alone }
added_to g (Plan p) = record { places = g.places; plan = Some (first_of g.plan p); alone = g.alone }
added_to g (Alone n) = record { places = g.places; plan = g.plan; alone = Some (first_of g.alone n) }

-- what is bad in saying x, which may be said only once
abbrev pub once : {X E : Type 0} → E → Option (Result X E) → Result X E → Result (Unit {0}) E
once again None (Ok x) = Ok tt
once again None (Err e) = Err e
once again (Some y) x = Err again

-- what should have stood in a line, where it is bad
abbrev pub fault_of : Given → Statement → Result (Unit {0}) Expected
fault_of g Nothing = Ok tt
fault_of g Unknown = Err FirstWord
fault_of g (Places n) = once Once g.places n
fault_of g (Plan p) = once Once g.plan p
fault_of g (Alone n) = once Once g.alone n

abbrev pub given_or : {X E : Type 0} → X → Option (Result X E) → X
given_or d None = d
given_or d (Some (Err e)) = d
given_or d (Some (Ok x)) = x

-- what is set; where nothing is, a setting is only there so that there is one
abbrev pub settings_in : Given → Script
settings_in g = record { places = given_or 0 g.places; plan = given_or Sum g.plan; rounds = given_or 0 g.alone }

abbrev pub script_with : Option (Result ℕ Expected) → Option (Result Choice Expected) → Option (Result ℕ Expected) → Option Script
script_with (Some (Ok n)) (Some (Ok p)) (Some (Ok r)) = Some (record { places = n; plan = p; rounds = r })
script_with n p r = None

-- the script, where all is set
abbrev pub script_in : Given → Option Script
script_in g = script_with g.places g.plan g.alone
