-- A crew as a program holds it: the machines, their journals, and of all that was ever said only what is still under way.
-- Each event is one call of one machine, a crash, or something that befalls the message that is due next.
-- Assumes nothing.
use Rattle.std.specs.Prelude.{ℕ, cond, List, [], ◌∷◌, ◌++◌, take, drop, None, ◌==◌, nat_lt}
use mathlib.Core.List.{Memᴰ}
use Rattle.crew.specs.Job.{Job}
use Rattle.crew.specs.Journals.{Record, Note}
use Rattle.crew.specs.Messages.{Parcel, foreman_line}
use Rattle.crew.specs.Worker as W
use Rattle.crew.specs.Foreman as F
use Rattle.runs.specs.World.{World, Machine, Effect, Call, Open, Take, Tick, Work, worker_call, foreman_call, after, put, Reach}

pub record Crew : Type 0 where
  pub worker : ℕ → Machine W.Worker Record
  pub foreman : Machine F.Foreman Note
  pub underway : List Parcel

abbrev pub fresh : Crew
fresh = record { worker = λ i. record { up = None; journal = [] }; foreman = record { up = None; journal = [] }; underway = [] }

-- the same with a history
abbrev pub with_said : Crew → List Parcel → World
with_said s ps = record { worker = s.worker; foreman = s.foreman; said = ps }

-- all of these were said
abbrev pub Spoken : (said : List Parcel) → List Parcel → Type 0
Spoken said [] = Unit {0}
Spoken said (p ∷ ps) = Memᴰ p said × Spoken said ps

-- SOME RUN LEADS HERE: there is a history of which what is under way is a part, and with it the world can be reached.
abbrev pub Led : Job → Crew → Type 0
Led b s = ∥ ((ps : List Parcel) × Spoken ps s.underway × Reach b (with_said s ps)) ∥₁

abbrev pub with_underway : Crew → List Parcel → Crew
with_underway s ps = record { worker = s.worker; foreman = s.foreman; underway = ps }

abbrev pub effect_at : Job → Crew → (i : ℕ) → Call → Effect W.Worker Record
effect_at b s i c = worker_call b i c (s.worker i).journal (s.worker i).up

abbrev pub pace_at : Job → Crew → Call → Effect F.Foreman Note
pace_at b s c = foreman_call b c s.foreman.journal s.foreman.up

-- A call of a machine; these are under way, and behind them what it says.
abbrev pub worker_acts : Job → (i : ℕ) → Call → List Parcel → Crew → Crew
worker_acts b i c ps s = record { worker = put i (after (s.worker i) (effect_at b s i c)) s.worker; foreman = s.foreman; underway = ps ++ (effect_at b s i c).says }

abbrev pub foreman_acts : Job → Call → List Parcel → Crew → Crew
foreman_acts b c ps s = record { worker = s.worker; foreman = after s.foreman (pace_at b s c); underway = ps ++ (pace_at b s c).says }

-- on a line where there is nobody nothing happens
abbrev pub acts : Job → (line : ℕ) → Call → List Parcel → Crew → Crew
acts b j c ps s = cond (j == foreman_line) (foreman_acts b c ps s) (cond (nat_lt j b.workers) (worker_acts b j c ps s) (with_underway s ps))

-- A crash between two calls: its journal is all that is left.
abbrev pub worker_falls : (i : ℕ) → Crew → Crew
worker_falls i s = record { worker = put i (record { up = None; journal = (s.worker i).journal }) s.worker; foreman = s.foreman; underway = s.underway }

abbrev pub foreman_falls : Crew → Crew
foreman_falls s = record { worker = s.worker; foreman = record { up = None; journal = s.foreman.journal }; underway = s.underway }

-- THE EVENTS

abbrev pub crashed : Job → (line : ℕ) → Crew → Crew
crashed b j s = cond (j == foreman_line) (foreman_falls s) (cond (nat_lt j b.workers) (worker_falls j s) s)

abbrev pub brought_up : Job → (line : ℕ) → Crew → Crew
brought_up b j s = acts b j Open s.underway s

abbrev pub ticked : Job → (line : ℕ) → Crew → Crew
ticked b j s = acts b j Tick s.underway s

abbrev pub worked : Job → (line : ℕ) → Crew → Crew
worked b j s = acts b j Work s.underway s

-- what is due next is handed over, and these are under way then
abbrev pub handed : Job → Parcel → List Parcel → Crew → Crew
handed b p ps s = acts b p.to (Take p.from p.message) ps s

abbrev pub gave_of : Job → List Parcel → Crew → Crew
gave_of b [] s = s
gave_of b (p ∷ ps) s = handed b p ps s

abbrev pub gave : Job → Crew → Crew
gave b s = gave_of b s.underway s

-- it is handed over, and is under way again
abbrev pub doubled_of : Job → List Parcel → Crew → Crew
doubled_of b [] s = s
doubled_of b (p ∷ ps) s = handed b p (ps ++ p ∷ []) s

abbrev pub doubled : Job → Crew → Crew
doubled b s = doubled_of b s.underway s

-- it is dropped
abbrev pub lost : Crew → Crew
lost s = with_underway s (drop 1 s.underway)

-- it comes behind so many others
abbrev pub behind : (k : ℕ) → List Parcel → List Parcel
behind k [] = []
behind k (p ∷ ps) = take k ps ++ p ∷ drop k ps

abbrev pub delayed : (k : ℕ) → Crew → Crew
delayed k s = with_underway s (behind k s.underway)
