-- A worker's answer, and its journal that has kept what was owed, are a call of the model.
-- Assumes nothing.
use Rattle.std.proofs.Common.{◌≡◌, ℕ, List, ◌++◌, Some, None, vec_items, Option, Result, Vec, sym, ap, ◌∙◌, slice_index, MatchResult, IfOk}
use Rattle.std.proofs.lemmas.List.{map-append}
use Rattle.std.proofs.lemmas.Result.{MatchResult-weaker}
use Rattle.std.specs.Option.{option_map}
use Rattle.std.specs.declared.alloc.Global.{Global}
use Rattle.std.specs.declared.alloc.AllocError.{AllocError}
use Rattle.meaning.specs.Meaning.{Program}
use Rattle.crew.specs.Job.{Job}
use Rattle.crew.specs.Journals as J
use Rattle.crew.specs.Shared.{job_of}
use Rattle.crew.specs.Stored.{record_of, records_of, parcels_of}
use Rattle.crew.specs.Worker as W
use Rattle.crew.specs.declared.journal.Record.{Record}
use Rattle.crew.specs.declared.message.Parcel.{Parcel}
use Rattle.crew.specs.declared.partition.Partition.{Partition}
use Rattle.runs.specs.World.{Effect, Call, Open, by_worker, after, worker_call}
use Rattle.workers.specs.Crewed.{worker_of, Replied}
use Rattle.workers.specs.declared.answer.Answer.{Answer}
use Rattle.workers.specs.declared.worker.Worker.{Worker}
use Rattle.world.specs.Seated.{Did, SameTable, Sits}

-- two tables that say the same give one job
pub job_same : (t u : Partition) (q : Program) → SameTable t u → job_of t q ≡ job_of u q
job_same t u q e = λ k. record { places = e.0 k; program = q; workers = e.1 k; owner = λ v. slice_index (e.2 k) v }

-- the call of who sits in a seat is the model's call of that seat
pub call_same : (t : Partition) (q : Program) (i : ℕ) (c d : Call) (records kept : List Record) (o : Option Worker) (x : Worker) → Sits t i o → o ≡ Some x → c ≡ d → kept ≡ records →
    worker_call (job_of t q) i c (records_of records) (option_map worker_of o) ≡ worker_call (job_of x.station.table q) x.station.me.0 d (records_of kept) (Some (worker_of x))
call_same t q i c d records kept o x sits is told same =
    let at = sits x is in
    λ k. worker_call (sym (job_same x.station.table t q at.1) k) (sym at.0 k) (told k) (records_of (sym same k)) (option_map worker_of (is k))

-- a worker that is down comes up
pub open_same : (t u : Partition) (q : Program) (i : ℕ) (records kept : List Record) (o : Option Worker) → o ≡ None → SameTable u t → kept ≡ records →
    worker_call (job_of t q) i Open (records_of records) (option_map worker_of o) ≡ by_worker (W.opened (job_of u q) i (records_of kept))
open_same t u q i records kept o none table same = λ k. worker_call (sym (job_same u t q table) k) i Open (records_of (sym same k)) (option_map worker_of (none k))

-- what a worker came to is kept
pub came : (b : Job) (i : ℕ) (c : Call) (o : Option Worker) {y : W.Reply} (x : Worker) (a : Answer) (records kept : List Record) (says : List Parcel) →
    worker_call b i c (records_of records) (option_map worker_of o) ≡ by_worker y → Replied y x a → (kept ≡ records ++ vec_items a.owed.appends) × (says ≡ vec_items a.owed.says) →
    Did b i c (record { up = option_map worker_of o; journal = records_of records }) (record { up = Some (worker_of x); journal = records_of kept }) (parcels_of says)
came b i c o x a records kept says call told keep =
    record {
      machine = (λ k. record { up = Some (told.state k); journal = (ap records_of keep.0 ∙ map-append record_of records (vec_items a.owed.appends) ∙ (λ t. records_of records ++ told.appends t)) k }) ∙ ap (after (record { up = option_map worker_of o; journal = records_of records })) (sym call);
      says = ap parcels_of keep.1 ∙ told.says ∙ ap (λ (z : Effect W.Worker J.Record). z.says) (sym call);
    }

pub did : (b : Job) (i : ℕ) (c : Call) (o : Option Worker) {y : W.Reply} (x : Worker) (a : Answer) (records kept : List Record) (r : Result (Vec Parcel Global) AllocError) (Q : AllocError → Type 0) →
    worker_call b i c (records_of records) (option_map worker_of o) ≡ by_worker y → Replied y x a →
    MatchResult r (λ says. (kept ≡ records ++ vec_items a.owed.appends) × (vec_items says ≡ vec_items a.owed.says)) Q →
    IfOk r (λ says. Did b i c (record { up = option_map worker_of o; journal = records_of records }) (record { up = Some (worker_of x); journal = records_of kept }) (parcels_of (vec_items says)))
did b i c o x a records kept r Q call told keep = MatchResult-weaker r keep (λ says h. came b i c o x a records kept (vec_items says) call told h) (λ _ _. tt)
