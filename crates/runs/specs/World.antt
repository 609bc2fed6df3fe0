-- The world of a crew: machines that are up or not, their journals, and all that was ever said. A step is one call of one
-- machine, whole or cut short by a crash. Lines lose, double, delay and reorder: a message is any that was ever said to
-- the machine, any number of times, at any time.
-- Assumes nothing.
use Rattle.std.specs.Prelude.{ℕ, ◌<◌, cond, List, [], ◌++◌, length, take, Some, None, Option, ◌==◌, nat_le}
use mathlib.Core.List.{Memᴰ}
use Rattle.crew.specs.Job.{Job}
use Rattle.crew.specs.Journals.{Record, Note}
use Rattle.crew.specs.Messages.{Message, Parcel, foreman_line}
use Rattle.crew.specs.Worker as W
use Rattle.crew.specs.Foreman as F

-- up: its state, or none where it crashed or was never opened
pub record Machine (S R : Type 0) : Type 0 where
  pub up : Option S
  pub journal : List R

pub record World : Type 0 where
  pub worker : ℕ → Machine W.Worker Record
  pub foreman : Machine F.Foreman Note
  pub said : List Parcel

-- Nobody is up, nothing is kept and nothing was said.
abbrev pub began : World
began = record { worker = λ i. record { up = None; journal = [] }; foreman = record { up = None; journal = [] }; said = [] }

pub data Call : Type 0 where
  Open : Call
  Take : (line : ℕ) → Message → Call
  Tick : Call
  -- a worker does its round
  Work : Call

-- What a call comes to: the state then, what is appended, and what is said once that is safe.
pub record Effect (S R : Type 0) : Type 0 where
  pub up : Option S
  pub appends : List R
  pub says : List Parcel

abbrev pub nothing : {S R : Type 0} → Option S → Effect S R
nothing o = record { up = o; appends = []; says = [] }

abbrev pub by_worker : W.Reply → Effect W.Worker Record
by_worker r = record { up = Some r.state; appends = r.appends; says = r.says }

abbrev pub by_foreman : F.Reply → Effect F.Foreman Note
by_foreman r = record { up = r.state; appends = r.appends; says = r.says }

-- worker i, with its journal; a machine that is up is not opened again, and one that is not does nothing else
abbrev pub worker_call : Job → (i : ℕ) → Call → List Record → Option W.Worker → Effect W.Worker Record
worker_call b i Open js None = by_worker (W.opened b i js)
worker_call b i Open js (Some x) = nothing (Some x)
worker_call b i (Take j m) js None = nothing None
worker_call b i (Take j m) js (Some x) = by_worker (W.took b i js x j m)
worker_call b i Tick js None = nothing None
worker_call b i Tick js (Some x) = by_worker (W.ticked b i x)
worker_call b i Work js None = nothing None
worker_call b i Work js (Some x) = by_worker (W.works b i x)

abbrev pub foreman_call : Job → Call → List Note → Option F.Foreman → Effect F.Foreman Note
foreman_call b Open js None = by_foreman (F.opened b.workers js)
foreman_call b Open js (Some f) = nothing (Some f)
foreman_call b (Take j m) js None = nothing None
foreman_call b (Take j m) js (Some f) = by_foreman (F.took b.workers f j m)
foreman_call b Tick js None = nothing None
foreman_call b Tick js (Some f) = by_foreman (F.ticked b.workers f)
foreman_call b Work js o = nothing o

-- a machine after a call, and after one that was cut short: so many of the records were appended
abbrev pub after : {S R : Type 0} → Machine S R → Effect S R → Machine S R
after x e = record { up = e.up; journal = x.journal ++ e.appends }

abbrev pub cut_after : {S R : Type 0} → Machine S R → Effect S R → (kept : ℕ) → Machine S R
cut_after x e c = record { up = None; journal = x.journal ++ take c e.appends }

-- what was said by then: nothing before all was appended
abbrev pub said_by : {S R : Type 0} → Effect S R → (kept spoken : ℕ) → List Parcel
said_by e c d = cond (nat_le (length e.appends) c) (take d e.says) []

abbrev pub put : {X : Type 0} → (i : ℕ) → X → (ℕ → X) → ℕ → X
put i x f j = cond (j == i) x (f j)

abbrev pub worker_effect : Job → World → (i : ℕ) → Call → Effect W.Worker Record
worker_effect b w i c = worker_call b i c (w.worker i).journal (w.worker i).up

abbrev pub foreman_effect : Job → World → Call → Effect F.Foreman Note
foreman_effect b w c = foreman_call b c w.foreman.journal w.foreman.up

abbrev pub worker_did : Job → World → (i : ℕ) → Call → World
worker_did b w i c = record { worker = put i (after (w.worker i) (worker_effect b w i c)) w.worker; foreman = w.foreman; said = (worker_effect b w i c).says ++ w.said }

abbrev pub worker_cut : Job → World → (i : ℕ) → Call → (kept spoken : ℕ) → World
worker_cut b w i c k d = record { worker = put i (cut_after (w.worker i) (worker_effect b w i c) k) w.worker; foreman = w.foreman; said = said_by (worker_effect b w i c) k d ++ w.said }

abbrev pub foreman_did : Job → World → Call → World
foreman_did b w c = record { worker = w.worker; foreman = after w.foreman (foreman_effect b w c); said = (foreman_effect b w c).says ++ w.said }

abbrev pub foreman_cut : Job → World → Call → (kept spoken : ℕ) → World
foreman_cut b w c k d = record { worker = w.worker; foreman = cut_after w.foreman (foreman_effect b w c) k; said = said_by (foreman_effect b w c) k d ++ w.said }

-- what a machine takes was said to it
abbrev pub Heard : World → (line : ℕ) → Call → Type 0
Heard w i Open = Unit {0}
Heard w i (Take j m) = Memᴰ (record { from = j; to = i; message = m }) w.said
Heard w i Tick = Unit {0}
Heard w i Work = Unit {0}

-- A call that is done whole.
pub data Act (b : Job) : World → World → Type 0 where
  worker : (w : World) (i : ℕ) (c : Call) → i < b.workers → Heard w i c → Act b w (worker_did b w i c)
  foreman : (w : World) (c : Call) → Heard w foreman_line c → Act b w (foreman_did b w c)

-- A step: a call, or a crash at any point of one.
pub data Step (b : Job) : World → World → Type 0 where
  acts : {v w : World} → Act b v w → Step b v w
  worker_crash : (w : World) (i : ℕ) (c : Call) (kept spoken : ℕ) → i < b.workers → Heard w i c → Step b w (worker_cut b w i c kept spoken)
  foreman_crash : (w : World) (c : Call) (kept spoken : ℕ) → Heard w foreman_line c → Step b w (foreman_cut b w c kept spoken)

pub data Reach (b : Job) : World → Type 0 where
  start : Reach b began
  then : {v w : World} → Reach b v → Step b v w → Reach b w

-- A way on with nobody crashing: the lines choose which message comes when.
pub data Way (b : Job) : World → World → Type 0 where
  here : {w : World} → Way b w w
  on : {u v w : World} → Way b u v → Act b v w → Way b u w
