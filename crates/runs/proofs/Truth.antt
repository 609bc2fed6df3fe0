-- What holds of every world that a run leads to: all that machines have, keep and say is true. So it is as if one did it, and over is over.
-- Assumes nothing.
use Rattle.std.proofs.Common.{◌≡◌, ℕ, leb, List, [], length, take, Some, None, Option, refl}
use Rattle.std.specs.List.{AllByRecursion}
use Rattle.std.proofs.ByRecursion.{All-append, All-take}
use Rattle.std.proofs.lemmas.Bool.{cond_both}
use Rattle.meaning.proofs.Ending.{over_stays}
use Rattle.crew.specs.Job.{Job, Proper}
use Rattle.crew.specs.Journals.{Record, Note}
use Rattle.crew.specs.Messages.{foreman_line}
use Rattle.crew.specs.Worker as W
use Rattle.crew.specs.Foreman as F
use Rattle.runs.specs.World.{World, Machine, Call, Open, Take, Tick, Work, Effect, worker_call, foreman_call, after, cut_after, said_by, worker_effect, foreman_effect, worker_did, worker_cut, foreman_did, foreman_cut, Heard, Act, worker, foreman, Step, acts, worker_crash, foreman_crash, Reach, start, then}
use Rattle.runs.specs.Promise.{TrueWorker, TrueRecord, TrueMessage, AsIfOne, OverIsOver}
use Rattle.runs.proofs.Lists.{all_mem, nobody, only, put_all}
use Rattle.runs.proofs.Calls.{TrueParcel, TrueReply, opened_true, ticked_true, works_true, took_true, ForemanUp, TrueOrder, foreman_opened_true, foreman_ticked_true, foreman_took_true}

abbrev pub WorkerUp : Job → (i : ℕ) → Option W.Worker → Type 0
WorkerUp b i None = Unit {0}
WorkerUp b i (Some x) = TrueWorker b i x

pub worker_up : (b : Job) (i : ℕ) (o : Option W.Worker) → WorkerUp b i o → (x : W.Worker) → o ≡ Some x → TrueWorker b i x
worker_up b i None h x e = nobody e
worker_up b i (Some y) h x e = only (TrueWorker b i) y h x e

pub record TrueMachine (b : Job) (i : ℕ) (m : Machine W.Worker Record) : Type 0 where
  pub up : WorkerUp b i m.up
  pub journal : AllByRecursion (TrueRecord b i) m.journal

-- THE INVARIANT
pub record Truth (b : Job) (w : World) : Type 0 where
  pub workers : (i : ℕ) → TrueMachine b i (w.worker i)
  pub foreman : ForemanUp b w.foreman.up
  pub said : AllByRecursion (TrueParcel b) w.said

-- CALLS

pub record TrueEffect (b : Job) (i : ℕ) (e : Effect W.Worker Record) : Type 0 where
  pub up : WorkerUp b i e.up
  pub appends : AllByRecursion (TrueRecord b i) e.appends
  pub says : AllByRecursion (TrueParcel b) e.says

pub record TrueOrders (b : Job) (e : Effect F.Foreman Note) : Type 0 where
  pub up : ForemanUp b e.up
  pub says : AllByRecursion (TrueParcel b) e.says

-- what a call is made on is true
abbrev pub TrueCall : Job → Call → Type 0
TrueCall b Open = Unit {0}
TrueCall b (Take j m) = TrueMessage b j m
TrueCall b Tick = Unit {0}
TrueCall b Work = Unit {0}

module _ (b : Job) (proper : Proper b) where
  heard_true : (w : World) (i : ℕ) (c : Call) → AllByRecursion (TrueParcel b) w.said → Heard w i c → TrueCall b c
  heard_true w i Open h m = tt
  heard_true w i (Take j x) h m = all_mem (TrueParcel b) m h
  heard_true w i Tick h m = tt
  heard_true w i Work h m = tt

  worker_call_true : (i : ℕ) (c : Call) (js : List Record) (o : Option W.Worker) → AllByRecursion (TrueRecord b i) js → WorkerUp b i o → TrueCall b c → TrueEffect b i (worker_call b i c js o)
  worker_call_true i c js o all up h = go c o up h
    where
      reply : (y : W.Reply) → TrueReply b proper i y → TrueEffect b i (record { up = Some y.state; appends = y.appends; says = y.says })
      reply y t = record { up = t.state; appends = t.appends; says = t.says }

      go : (c : Call) (o : Option W.Worker) → WorkerUp b i o → TrueCall b c → TrueEffect b i (worker_call b i c js o)
      go Open None up h = reply (W.opened b i js) (opened_true b proper i js)
      go Open (Some x) up h = record { up = up; appends = tt; says = tt }
      go (Take j m) None up h = record { up = tt; appends = tt; says = tt }
      go (Take j m) (Some x) up h = reply (W.took b i js x j m) (took_true b proper i js all x up j m h)
      go Tick None up h = record { up = tt; appends = tt; says = tt }
      go Tick (Some x) up h = reply (W.ticked b i x) (ticked_true b proper i x up)
      go Work None up h = record { up = tt; appends = tt; says = tt }
      go Work (Some x) up h = reply (W.works b i x) (works_true b proper i x up)

  foreman_call_true : (c : Call) (js : List Note) (o : Option F.Foreman) → ForemanUp b o → TrueCall b c → TrueOrders b (foreman_call b c js o)
  foreman_call_true c js o up h = go c o up h
    where
      reply : (y : F.Reply) → TrueOrder b proper y → TrueOrders b (record { up = y.state; appends = y.appends; says = y.says })
      reply y t = record { up = t.state; says = t.says }

      go : (c : Call) (o : Option F.Foreman) → ForemanUp b o → TrueCall b c → TrueOrders b (foreman_call b c js o)
      go Open None up h = reply (F.opened b.workers js) (foreman_opened_true b proper js)
      go Open (Some f) up h = record { up = up; says = tt }
      go (Take j m) None up h = record { up = tt; says = tt }
      go (Take j m) (Some f) up h = reply (F.took b.workers f j m) (foreman_took_true b proper f up j m h)
      go Tick None up h = record { up = tt; says = tt }
      go Tick (Some f) up h = reply (F.ticked b.workers f) (foreman_ticked_true b proper f up)
      go Work o up h = record { up = up; says = tt }

  -- STEPS

  said_true : {S R : Type 0} (e : Effect S R) (k d : ℕ) → AllByRecursion (TrueParcel b) e.says → AllByRecursion (TrueParcel b) (said_by e k d)
  said_true e k d h = cond_both (leb (length e.appends) k) (take d e.says) [] (AllByRecursion (TrueParcel b)) (λ q. All-take (TrueParcel b) d e.says h) (λ q. tt)

  module _ (w : World) (t : Truth b w) where
    by_worker_lem : (i : ℕ) (c : Call) → Heard w i c → TrueEffect b i (worker_effect b w i c)
    by_worker_lem i c h = worker_call_true i c (w.worker i).journal (w.worker i).up (t.workers i).journal (t.workers i).up (heard_true w i c t.said h)

    by_foreman_lem : (c : Call) → Heard w foreman_line c → TrueOrders b (foreman_effect b w c)
    by_foreman_lem c h = foreman_call_true c w.foreman.journal w.foreman.up t.foreman (heard_true w foreman_line c t.said h)

    worker_did_lem : (i : ℕ) (c : Call) → Heard w i c → Truth b (worker_did b w i c)
    worker_did_lem i c h =
        let e : TrueEffect b i (worker_effect b w i c) = by_worker_lem i c h in
        record {
          workers = put_all (TrueMachine b) i (after (w.worker i) (worker_effect b w i c)) w.worker (record { up = e.up; journal = All-append (TrueRecord b i) (w.worker i).journal (worker_effect b w i c).appends (t.workers i).journal e.appends }) t.workers;
          foreman = t.foreman;
          said = All-append (TrueParcel b) (worker_effect b w i c).says w.said e.says t.said;
        }

    worker_cut_lem : (i : ℕ) (c : Call) (k d : ℕ) → Heard w i c → Truth b (worker_cut b w i c k d)
    worker_cut_lem i c k d h =
        let e : TrueEffect b i (worker_effect b w i c) = by_worker_lem i c h in
        record {
          workers =
              put_all (TrueMachine b) i (cut_after (w.worker i) (worker_effect b w i c) k) w.worker
              (record { up = tt; journal = All-append (TrueRecord b i) (w.worker i).journal (take k (worker_effect b w i c).appends) (t.workers i).journal (All-take (TrueRecord b i) k (worker_effect b w i c).appends e.appends) })
              t.workers;
          foreman = t.foreman;
          said = All-append (TrueParcel b) (said_by (worker_effect b w i c) k d) w.said (said_true (worker_effect b w i c) k d e.says) t.said;
        }

    foreman_did_lem : (c : Call) → Heard w foreman_line c → Truth b (foreman_did b w c)
    foreman_did_lem c h =
        let e : TrueOrders b (foreman_effect b w c) = by_foreman_lem c h in
        record { workers = t.workers; foreman = e.up; said = All-append (TrueParcel b) (foreman_effect b w c).says w.said e.says t.said }

    foreman_cut_lem : (c : Call) (k d : ℕ) → Heard w foreman_line c → Truth b (foreman_cut b w c k d)
    foreman_cut_lem c k d h =
        let e : TrueOrders b (foreman_effect b w c) = by_foreman_lem c h in
        record { workers = t.workers; foreman = tt; said = All-append (TrueParcel b) (said_by (foreman_effect b w c) k d) w.said (said_true (foreman_effect b w c) k d e.says) t.said }

  pub act_true : {v w : World} → Act b v w → Truth b v → Truth b w
  act_true (worker w i c l h) t = worker_did_lem w t i c h
  act_true (foreman w c h) t = foreman_did_lem w t c h

  pub step_true : {v w : World} → Step b v w → Truth b v → Truth b w
  step_true (acts a) t = act_true a t
  step_true (worker_crash w i c k d l h) t = worker_cut_lem w t i c k d h
  step_true (foreman_crash w c k d h) t = foreman_cut_lem w t c k d h

  pub reach_true : {w : World} → Reach b w → Truth b w
  reach_true start = record { workers = λ i. record { up = tt; journal = tt }; foreman = tt; said = tt }
  reach_true (then r s) = step_true s (reach_true r)

-- As if one did it.
pub as_if_one : AsIfOne
as_if_one b proper w reach =
    let t : Truth b w = reach_true b proper reach in
    record { workers = λ i l. worker_up b i (w.worker i).up (t.workers i).up; journals = λ i l. (t.workers i).journal; said = t.said }

-- Over is over, then and later.
pub over_is_over : OverIsOver
over_is_over b proper w reach i j k r nr m d = (over_stays b.places b.program r d (all_mem (TrueParcel b) m (reach_true b proper reach).said refl)).1
