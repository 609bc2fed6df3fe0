-- A worker as the model has it, and its answers.
-- Assumes nothing.
use Rattle.std.specs.Prelude.{◌≡◌, ℕ, Bool, false, List, [], None, vec_items}
use Rattle.std.specs.Option.{option_map}
use Rattle.packed.specs.Strings.{items}
use Rattle.meaning.specs.Mail.{received}
use Rattle.meaning.specs.Meaning.{Letter, View, Program}
use Rattle.meaning.specs.declared.numbers.Round.{Round}
use Rattle.rounds.specs.Work.{worked_of}
use Rattle.crew.specs.Job.{Job}
use Rattle.crew.specs.Messages.{Batch, Go}
use Rattle.crew.specs.Shared.{job_of}
use Rattle.crew.specs.Stored.{records_of, parcels_of}
use Rattle.crew.specs.Worker as W
use Rattle.workers.specs.Holding.{got_of}
use Rattle.workers.specs.Phases.{is_in, is_over, worked_in}
use Rattle.workers.specs.declared.answer.Answer.{Answer}
use Rattle.workers.specs.declared.worker.Worker.{Worker}

-- what it has of its places
abbrev pub share_in : Worker → View
share_in w = record { states = items w.standing.states; rests = vec_items w.standing.rests; post = received w.inbox }

abbrev pub worker_of : Worker → W.Worker
worker_of w =
    record {
      joined = is_in w.phase;
      attempt = w.attempt.0;
      round = w.round.0;
      share = share_in w;
      worked = worked_in w.phase (worked_of w.next);
      got = got_of w.got;
      over = is_over w.phase;
      latest = option_map (λ (r : Round). r.0) w.latest;
    }

-- the job of its crew, with a program
abbrev pub job_in : Worker → Program → Job
job_in w q = job_of w.station.table q

-- with what its places begin with, in attempt k or out
abbrev pub started_as : Job → (i : ℕ) → (joined : Bool) → (k : ℕ) → W.Worker
started_as b i e k = record { joined = e; attempt = k; round = 0; share = W.first_share b i; worked = None; got = W.nothing_got; over = false; latest = None }

-- what a batch that is taken does, and a go that is
abbrev pub batch_taken : Job → (i : ℕ) → W.Worker → (j : ℕ) → List Letter → W.Reply
batch_taken b i w j ls = W.taking b i [] w j (Batch 0 0 0 0 ls)

abbrev pub go_taken : Job → (i : ℕ) → W.Worker → (over : Bool) → W.Reply
go_taken b i w e = W.taking b i [] w 0 (Go 0 0 0 e)

-- a call came to what the model says: the state then, what is owed, and the outcome
pub record Replied (y : W.Reply) (w : Worker) (a : Answer) : Type 0 where
  pub state : worker_of w ≡ y.state
  pub appends : records_of (vec_items a.owed.appends) ≡ y.appends
  pub says : parcels_of (vec_items a.owed.says) ≡ y.says
  pub outcome : a.outcome ≡ y.outcome
