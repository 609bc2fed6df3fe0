-- Every run keeps pace, and what follows: workers are in step, an attempt has one round, and nobody is found unready.
-- Assumes nothing.
use Rattle.std.proofs.Common.{◌≡◌, ℕ, ◌+◌, ◌<◌, ◌≤◌, false, List, Some, Ok, Err, sym, refl, ap, ◌∙◌, subst, arith}
use mathlib.Core.List.{Memᴰ}
use Rattle.meaning.specs.Caps.{round_cap}
use Rattle.crew.specs.Job.{Job}
use Rattle.crew.specs.Journals.{Record, last_began}
use Rattle.crew.specs.Messages.{Message, Batch, Ready, Go, Anew, PutBy, Hello, foreman_line}
use Rattle.crew.specs.Outcomes.{Outcome, Taken, outcome_number, judged}
use Rattle.crew.specs.Worker.{Worker, reasons, taking, took_by, took}
use Rattle.crew.specs.Foreman.{Foreman}
use Rattle.runs.specs.World.{World, began, Call, Open, Take, Tick, Work, worker_effect, Heard, Act, worker, foreman, Step, acts, worker_crash, foreman_crash, Reach, start, then}
use Rattle.runs.specs.Promise.{InStep, OneRound, NeverUnready}
use Rattle.runs.proofs.Lists.{all_mem, nobody}
use Rattle.runs.proofs.Pace.{done_by, Ghost, Own, Told, Sound, Paced, Pace, before, Moves, worker_did_lem, worker_cut_lem, foreman_cut_lem}
use Rattle.runs.proofs.PaceOfWorker as W
use Rattle.runs.proofs.PaceOfForeman as F

module _ (b : Job) where
  -- nobody is up, and every attempt is at round 0
  begins : Pace b began
  begins = (
    record { attempt = 0; noted = 0; from = λ k. 0; top = λ k. 0; over = λ k. false },
    record {
      began = refl;
      lastly = refl;
      first = refl;
      fresh = (refl, refl);
      due = refl;
      low = omega arith;
      workers = λ i l. record { low = omega arith; behind = λ k q. (refl, refl); starts = λ k. refl; noted = refl; attempt = λ y u. nobody u; here = λ y u j. nobody u };
      said = tt;
      leads = λ f u. nobody u;
      hears = λ f u. nobody u;
    },
  )

  told : (g : Ghost) (w : World) → Paced b g w → (i j : ℕ) (m : Message) → Memᴰ (record { from = j; to = i; message = m }) w.said → Told b g (w.worker j) m
  told g w h i j m c = all_mem (Sound b g w.worker) c h.said

  hearing : (g : Ghost) (w : World) → Paced b g w → (i : ℕ) (c : Call) → Heard w i c → W.Hearing b g i c
  hearing g w h i Open t = tt
  hearing g w h i (Take j m) t = (w.worker j, told g w h i j m t)
  hearing g w h i Tick t = tt
  hearing g w h i Work t = tt

  moves : (g : Ghost) (w : World) → Paced b g w → (i : ℕ) → i < b.workers → (c : Call) → Heard w i c → Moves b g i (w.worker i) (worker_effect b w i c)
  moves g w h i lt c t = W.calls b g i h.first c (hearing g w h i c t) (w.worker i).journal (w.worker i).up (h.workers i lt)

  -- a step keeps pace
  act : {v w : World} → Act b v w → Pace b v → Pace b w
  act (worker w i c lt t) h = (h.0, worker_did_lem b h.0 w h.1 i c (moves h.0 w h.1 i lt c t))
  act (foreman w c t) h = (F.calls b w.worker w.said h.0 w.foreman.up w.foreman.journal h.1 c t).0

  step : {v w : World} → Step b v w → Pace b v → Pace b w
  step (acts a) h = act a h
  step (worker_crash w i c k d lt t) h = (h.0, worker_cut_lem b h.0 w h.1 i lt c k d (moves h.0 w h.1 i lt c t))
  step (foreman_crash w c k d t) h =
      let n = F.calls b w.worker w.said h.0 w.foreman.up w.foreman.journal h.1 c t in foreman_cut_lem b w c k d h n.0 n.1

  pub in_pace : {w : World} → Reach b w → Pace b w
  in_pace start = begins
  in_pace (then r s) = step s (in_pace r)

  -- nobody is in an attempt that hasn't begun, and the foreman is in the last that has
  pub attempt_begun : (w : World) → Reach b w → (i : ℕ) → i < b.workers → (x : Worker) → (w.worker i).up ≡ Some x → x.attempt ≤ last_began 0 w.foreman.journal
  attempt_begun w re i lt x e = let h = in_pace re in omega (arith, before b h.0 (w.worker i) (h.1.workers i lt) x e, h.1.began)

  pub foreman_attempt : (w : World) → Reach b w → (f : Foreman) → w.foreman.up ≡ Some f → f.attempt ≡ last_began 0 w.foreman.journal
  foreman_attempt w re f e = let h = in_pace re in (h.1.leads f e).attempt ∙ sym h.1.began

  -- no round is noted that isn't below the cap
  pub foreman_noted : (w : World) → Reach b w → (f : Foreman) → w.foreman.up ≡ Some f → f.noted < round_cap
  foreman_noted w re f e = let h = in_pace re in let n : f.noted ≡ h.0.noted = (h.1.leads f e).noted in omega (arith, h.1.low)

-- workers of one attempt are at most a round apart: both are between the ghosts
pub in_step : InStep
in_step b proper w reach i j lti ltj x y ux uy jx jy e =
    let h = in_pace b reach in
    let p : x.round ≤ h.0.top x.attempt = ((h.1.workers i lti).here x ux jx).high in
    let q : h.0.top y.attempt ≤ done_by b y = ((h.1.workers j ltj).here y uy jy).done in
    let r : done_by b y ≤ y.round + 1 = W.done_most b h.0 y in
    let s : h.0.top x.attempt ≡ h.0.top y.attempt = ap h.0.top e in
    omega arith

-- no attempt is said with two rounds: each is the one that it began from
pub one_round_lem : OneRound
one_round_lem b proper w reach i j k r s p q =
    let h = in_pace b reach in
    (told b h.0 w h.1 i foreman_line (Anew k r) p).1 ∙ sym (told b h.0 w h.1 j foreman_line (Anew k s) q).1

-- a call's outcome is that of the reasons
numbered : (b : Job) (i : ℕ) (js : List Record) (x : Worker) (j : ℕ) (m : Message) (n : ℕ) → outcome_number (took b i js x j m).outcome ≡ n → outcome_number (judged (reasons b i js x j m)) ≡ n
numbered b i js x j m n e = go (judged (reasons b i js x j m)) e
  where
    taken : (m : Message) → (taking b i js x j m).outcome ≡ Taken
    taken (Batch k r f t ls) = refl
    taken (Ready k r v) = refl
    taken (Go k r nr v) = refl
    taken (Anew k r) = refl
    taken (PutBy k r) = refl
    taken (Hello k) = refl

    go : (o : Outcome) → outcome_number (took_by b i js x j m o).outcome ≡ n → outcome_number o ≡ n
    go (Ok done) q = sym (ap outcome_number (taken m)) ∙ q
    go (Err y) q = q

pub never_unready : NeverUnready
never_unready b proper w reach i j lt x u m c =
    let h = in_pace b reach in
    let own : Own b h.0 (record { up = Some x; journal = (w.worker i).journal }) = subst (λ o. Own b h.0 (record { up = o; journal = (w.worker i).journal })) u (h.1.workers i lt) in
    let n = W.never_lacking b h.0 i (w.worker i).journal x own j (w.worker j) m (told b h.0 w h.1 i j m c) in
    (λ e. n.0 (numbered b i (w.worker i).journal x j m 5 e), λ e. n.1 (numbered b i (w.worker i).journal x j m 6 e))
