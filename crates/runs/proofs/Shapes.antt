-- What machines look like on the way, and what a call comes to where a message is taken.
-- Assumes nothing.
use Rattle.std.proofs.Common.{◌≡◌, ℕ, ◌<◌, ◌≤◌, Bool, true, false, List, Some, None, Option, ap, ◌∙◌}
use Rattle.meaning.specs.Meaning.{Letter, View}
use Rattle.crew.specs.Job.{Job}
use Rattle.crew.specs.Messages.{Message}
use Rattle.crew.specs.Outcomes.{Outcome, Taken, judged}
use Rattle.crew.specs.Worker as W
use Rattle.crew.specs.Foreman as F
use Rattle.runs.specs.World.{World, Take, Tick, by_worker, by_foreman, worker_call, foreman_call, worker_effect, foreman_effect}

-- a worker in attempt k, after r rounds, with what it worked and got; and whether it was told over
abbrev pub in_round : (k r : ℕ) → View → Option View → (ℕ → Option (List Letter)) → (over : Bool) → Option ℕ → W.Worker
in_round k r s v g o l = record { joined = true; attempt = k; round = r; share = s; worked = v; got = g; over = o; latest = l }

-- a foreman of attempt k from round n that awaits round r
abbrev pub awaiting : (k n r : ℕ) → (ℕ → Bool) → (ending over : Bool) → (noted : ℕ) → (ℕ → ℕ) → (quiet : ℕ) → F.Foreman
awaiting k n r rd e o nt kp q = record { attempt = k; start = n; at = r; ready = rd; ending = e; over = o; noted = nt; kept = kp; quiet = q }

pub record IsUp {S : Type 0} (o : Option S) : Type 0 where
  pub state : S
  pub is : o ≡ Some state

-- it is to work round r of attempt k, which began from round n; if it has just put round r by, it will say so again
pub record Fresh (k n r : ℕ) (o : Option W.Worker) : Type 0 where
  pub share : View
  pub latest : Option ℕ
  pub is : o ≡ Some (in_round k r share None W.nothing_got false latest)
  pub last : n < r → W.is_due r ≡ true → latest ≡ Some r

-- the foreman awaits round r of attempt k, which began from round n, and nobody has said anything
pub record Awaits (k n r : ℕ) (o : Option F.Foreman) : Type 0 where
  pub quiet : ℕ
  pub is : o ≡ Some (awaiting k n r (λ j. false) true false n (λ j. n) quiet)

-- all begin round r
pub record AllFresh (b : Job) (k n r : ℕ) (w : World) : Type 0 where
  pub foreman : Awaits k n r w.foreman.up
  pub from : n ≤ r
  pub fresh : (i : ℕ) → i < b.workers → Fresh k n r (w.worker i).up

-- CALLS

pub foreman_ticks : (b : Job) (w : World) (f : F.Foreman) (y : F.Reply) → w.foreman.up ≡ Some f → F.ticked b.workers f ≡ y → foreman_effect b w Tick ≡ by_foreman y
foreman_ticks b w f y up e = ap (λ (o : Option F.Foreman). foreman_call b Tick w.foreman.journal o) up ∙ ap by_foreman e

pub worker_ticks : (b : Job) (w : World) (i : ℕ) (x : W.Worker) → (w.worker i).up ≡ Some x → worker_effect b w i Tick ≡ by_worker (W.ticked b i x)
worker_ticks b w i x up = ap (λ (o : Option W.Worker). worker_call b i Tick (w.worker i).journal o) up

-- a message that is taken
pub worker_takes : (b : Job) (w : World) (i : ℕ) (x : W.Worker) (j : ℕ) (m : Message) → (w.worker i).up ≡ Some x → judged (W.reasons b i (w.worker i).journal x j m) ≡ Taken →
    worker_effect b w i (Take j m) ≡ by_worker (W.taking b i (w.worker i).journal x j m)
worker_takes b w i x j m up e = ap (λ (o : Option W.Worker). worker_call b i (Take j m) (w.worker i).journal o) up ∙ ap (λ (o : Outcome). by_worker (W.took_by b i (w.worker i).journal x j m o)) e

pub foreman_takes : (b : Job) (w : World) (f : F.Foreman) (j : ℕ) (m : Message) → w.foreman.up ≡ Some f → judged (F.reasons b.workers f j m) ≡ Taken →
    foreman_effect b w (Take j m) ≡ by_foreman (F.taking b.workers f j m)
foreman_takes b w f j m up e = ap (λ (o : Option F.Foreman). foreman_call b (Take j m) w.foreman.journal o) up ∙ ap (λ (o : Outcome). by_foreman (F.took_by b.workers f j m o)) e
