-- What lines say, taken together, and which of them are bad.
-- Assumes nothing.
use Rattle.std.specs.Prelude.{ℕ, Bool, true, false, cond, not, ◌&&◌, ◌||◌, List, Some, None, Ok, Err, Option, Result, ◌==◌, nat_lt}
use Rattle.std.specs.Option.{is_some}
use Rattle.script.specs.declared.complaints.Expected as script_expected
use Rattle.script.specs.declared.statements.Statement as script_statement
use Rattle.script.specs.declared.statements.Statement.TheVariants as script_variants
use Rattle.script.specs.declared.settings.Choice.{Choice}
use Rattle.script.specs.declared.settings.Choice.TheVariants.{Sum}
use Rattle.script.specs.Given as script
use Rattle.script.specs.Given.{first_of, given_or, once}
use Rattle.crew_script.specs.declared.settings.Machine.{Machine}
use Rattle.crew_script.specs.declared.settings.Machine.TheVariants.{Worker, Foreman}
use Rattle.crew_script.specs.declared.settings.Span.{Span}
use Rattle.crew_script.specs.declared.settings.Event.{Event}
use Rattle.crew_script.specs.declared.settings.Event.TheVariants.{Tick, Up, Cut, Give, Lose, Twice, Late, Seed, Until}
use Rattle.crew_script.specs.declared.complaints.Expected.{Expected}
use Rattle.crew_script.specs.declared.complaints.Expected.TheVariants as expected
use Rattle.crew_script.specs.declared.complaints.Expected.TheVariants.{CrewOnce, OneRun, CrewLine, OwnerSettings}
use Rattle.crew_script.specs.declared.statements.Statement.{Statement}
use Rattle.crew_script.specs.declared.statements.Statement.TheVariants.{Lone, Workers, Owner, Happens}
use Rattle.crew_script.specs.declared.given.Given.{Given}
use Rattle.crew_script.specs.Asked.{Asked, Players, crew, lone}
use Rattle.crew_script.specs.Wording.{with_crews}

-- WHAT IS GIVEN

-- before the first line
abbrev pub unsaid : Given
unsaid = record { lone = script.unsaid; workers = None; last = None }

-- the first place of the last stretch, after one more
abbrev pub last_after : Option ℕ → Result Span Expected → ℕ
last_after f (Ok x) = x.first
last_after None (Err e) = 0
last_after (Some f) (Err e) = f

-- What is given after one more line. A bad line counts as given. A setting that is given again changes nothing.
abbrev pub added_to : Given → Statement → Given
added_to g (Lone st) = record { lone = script.added_to g.lone st; workers = g.workers; last = g.last }
added_to g (Workers m) = record { lone = g.lone; workers = Some (first_of g.workers m); last = g.last }
added_to g (Owner x) = record { lone = g.lone; workers = g.workers; last = Some (last_after g.last x) }
added_to g (Happens e) = g

-- WHAT IS BAD

abbrev pub turned : Result (Unit {0}) script_expected.Expected → Result (Unit {0}) Expected
turned (Ok u) = Ok u
turned (Err e) = Err (with_crews e)

abbrev pub names_one : script_statement.Statement → Bool
names_one script_variants.Nothing = false
names_one script_variants.Unknown = false
names_one (script_variants.Places n) = false
names_one (script_variants.Plan p) = false
names_one (script_variants.Alone r) = true

-- `alone` where `workers` is, or what is bad without crews too
abbrev pub lone_fault : Given → script_statement.Statement → Result (Unit {0}) Expected
lone_fault g st = cond (names_one st && (not (is_some g.lone.alone) && is_some g.workers)) (Err OneRun) (turned (script.fault_of g.lone st))

abbrev pub workers_fault : Given → Result ℕ Expected → Result (Unit {0}) Expected
workers_fault g m = cond (not (is_some g.workers) && is_some g.lone.alone) (Err OneRun) (once CrewOnce g.workers m)

-- the first stretch begins at place 0, and any other above the one before
abbrev pub follows_at : Option ℕ → Span → Bool
follows_at None x = x.first == 0
follows_at (Some f) x = nat_lt f x.first

abbrev pub follows : Given → Span → Bool
follows g x = follows_at g.last x

-- Where nothing is set, places and workers are as many as there can be, so that no line is bad for want of them.
abbrev pub places_of : Given → ℕ
places_of g = given_or 1048576 g.lone.places

abbrev pub workers_of : Given → ℕ
workers_of g = given_or 8 g.workers

-- and its place and its worker are there
abbrev pub fitting : (all g : Given) → Span → Bool
fitting all g x = follows g x && (nat_lt x.first (places_of all) && nat_lt x.worker (workers_of all))

abbrev pub owner_fault : (all g : Given) → Span → Result (Unit {0}) Expected
owner_fault all g x = cond (fitting all g x) (Ok tt) (Err OwnerSettings)

abbrev pub is_machine : (workers : ℕ) → Machine → Bool
is_machine m (Worker i) = nat_lt i m
is_machine m Foreman = true

-- the machine that it befalls is there
abbrev pub there : (workers : ℕ) → Event → Bool
there m (Tick i) = is_machine m i
there m (Up i) = is_machine m i
there m (Cut i b) = is_machine m i
there m Give = true
there m Lose = true
there m Twice = true
there m (Late k) = true
there m (Seed s t) = true
there m (Until t) = true

abbrev pub event_fault : (all : Given) → Event → Result (Unit {0}) Expected
event_fault all e = cond (there (workers_of all) e) (Ok tt) (Err expected.Machine)

abbrev pub crew_fault : (all : Given) → Result (Unit {0}) Expected
crew_fault all = cond (is_some all.workers) (Ok tt) (Err CrewLine)

-- a line of a crew is bad where there is none, where its words are bad, or by what they say
abbrev pub with_crew : {X : Type 0} → (all : Given) → (X → Result (Unit {0}) Expected) → Result X Expected → Result (Unit {0}) Expected
with_crew all f (Err e) = cond (is_some all.workers) (Err e) (Err CrewLine)
with_crew all f (Ok x) = cond (is_some all.workers) (f x) (Err CrewLine)

-- What should have stood in a line, where it is bad: g is given before it, and all by all lines.
abbrev pub fault_of : (all g : Given) → Statement → Result (Unit {0}) Expected
fault_of all g (Lone st) = lone_fault g st
fault_of all g (Workers m) = workers_fault g m
fault_of all g (Owner x) = with_crew all (owner_fault all g) x
fault_of all g (Happens e) = with_crew all (event_fault all) e

-- WHAT IT ASKS FOR

-- whether some line says who plays
abbrev pub run_in : Given → Option (Unit {0})
run_in g = cond (is_some g.lone.alone || is_some g.workers) (Some tt) None

abbrev pub players_by : Option (Result ℕ Expected) → Option (Result ℕ script_expected.Expected) → List Span → List Event → Players
players_by None r xs es = lone (given_or 0 r)
players_by (Some m) r xs es = crew (given_or 0 (Some m)) xs es

-- what is asked for; where nothing is set, a setting is only there so that there is one
abbrev pub asked_by : (all : Given) → List Span → List Event → Asked
asked_by all xs es = record { places = given_or 0 all.lone.places; plan = given_or Sum all.lone.plan; run = players_by all.workers all.lone.alone xs es }

abbrev pub players_with : Option (Result ℕ Expected) → Option (Result ℕ script_expected.Expected) → List Span → List Event → Option Players
players_with None None xs es = None
players_with None (Some (Err e)) xs es = None
players_with None (Some (Ok r)) xs es = Some (lone r)
players_with (Some (Err e)) r xs es = None
players_with (Some (Ok m)) r xs es = Some (crew m xs es)

abbrev pub asked_with : Option (Result ℕ script_expected.Expected) → Option (Result Choice script_expected.Expected) → Option Players → Option Asked
asked_with (Some (Ok n)) (Some (Ok p)) (Some r) = Some (record { places = n; plan = p; run = r })
asked_with n p r = None

-- the same, where all is set
abbrev pub script_in : (all : Given) → List Span → List Event → Option Asked
script_in all xs es = asked_with all.lone.places all.lone.plan (players_with all.workers all.lone.alone xs es)
