-- From whatever has come to be: all open, the foreman waits until it begins an attempt anew, and all join.
-- Assumes nothing.
use Rattle.std.proofs.Common.{◌≡◌, ℕ, zero, suc, ◌+◌, ◌<◌, ◌≤◌, Bool, true, false, cond, not, ◌||◌, eqb, ltb, leb, List, [], ◌∷◌, ◌++◌, is_some, Some, None, Option, refl, ap, ◌∙◌, arith}
use mathlib.Core.List.{Memᴰ}
use Rattle.std.proofs.lemmas.Bool.{lt-leb, le-ltb}
use Rattle.meaning.specs.Caps.{round_cap}
use Rattle.crew.specs.Job.{Job, Proper}
use Rattle.crew.specs.Journals.{Record, Note, Began, last_began, last_noted, checkpoint_of}
use Rattle.crew.specs.Messages.{Anew, foreman_line, to_all}
use Rattle.crew.specs.Outcomes.{Outcome, Taken, outcome_number, only_full, judged}
use Rattle.crew.specs.Worker as W
use Rattle.crew.specs.Foreman as F
use Rattle.runs.specs.World.{World, Open, Take, Tick, by_worker, by_foreman, worker_call, foreman_call, Reach}
use Rattle.runs.specs.Promise.{Roomy, Going}
use Rattle.runs.proofs.Said.{said_to_each}
use Rattle.runs.proofs.Journals.{began_append}
use Rattle.runs.proofs.Outcomes.{judged_taken, judged_missing}
use Rattle.runs.proofs.Ticks.{anew, quieter, ticked_waits, ticked_anew}
use Rattle.runs.proofs.InPace.{attempt_begun, foreman_attempt, foreman_noted, never_unready}
use Rattle.runs.proofs.Onward.{Split, split_put, Leads, stay, next, each, worker_does, foreman_does}
use Rattle.runs.proofs.Shapes.{IsUp, Fresh, Awaits, AllFresh, foreman_ticks, worker_takes}

-- There is room for one attempt more, and for two where the foreman is to be opened.
pub record Room (w : World) : Type 0 where
  pub opens : w.foreman.up ≡ None → Roomy w
  pub begins : last_began 0 w.foreman.journal + 1 < W.attempt_cap

pub roomy : (w : World) → Roomy w → Room w
roomy w h = record { opens = λ e. h; begins = omega arith }

-- the workers below c are up
record Opening (b : Job) (c : ℕ) (w : World) : Type 0 where
  room : Room w
  going : Going w
  split : Split b.workers c IsUp (λ (o : Option W.Worker). Unit {0}) w.worker

record AllUp (b : Job) (w : World) : Type 0 where
  ups : (i : ℕ) → i < b.workers → IsUp (w.worker i).up
  foreman : IsUp w.foreman.up
  going : foreman.state.over ≡ false
  room : last_began 0 w.foreman.journal + 1 < W.attempt_cap

-- it is in an attempt below k
record Waits (k : ℕ) (o : Option W.Worker) : Type 0 where
  state : W.Worker
  is : o ≡ Some state
  less : state.attempt < k

-- attempt k has begun from round n, and the workers below c have joined
record Joining (b : Job) (k n c : ℕ) (w : World) : Type 0 where
  foreman : Awaits k n n w.foreman.up
  room : k < W.attempt_cap
  anew : (j : ℕ) → j < b.workers → Memᴰ (record { from = foreman_line; to = j; message = Anew k n }) w.said
  split : Split b.workers c (Fresh k n n) (Waits k) w.worker

pub opens : (b : Job) (i : ℕ) (js : List Record) (o : Option W.Worker) → IsUp (worker_call b i Open js o).up
opens b i [] None = record { state = W.joined_at 0 0 (W.first_share b i); is = refl }
opens b i (x ∷ xs) None = record { state = (W.opened b i (x ∷ xs)).state; is = refl }
opens b i js (Some x) = record { state = x; is = refl }

module _ (b : Job) where
  open_one : (c : ℕ) → c < b.workers → (w : World) → Reach b w → Opening b c w → Leads b w (Opening b (suc c))
  open_one c lt w r h =
      worker_does b (Opening b (suc c)) w c Open (worker_call b c Open (w.worker c).journal (w.worker c).up) lt tt refl
      (record {
        room = record { opens = h.room.opens; begins = h.room.begins };
        going = h.going;
        split = split_put b.workers c IsUp (λ (o : Option W.Worker). Unit {0}) _ w.worker h.split (opens b c (w.worker c).journal (w.worker c).up);
      })

  open_foreman : (w : World) → Reach b w → Opening b b.workers w → Leads b w (AllUp b)
  open_foreman w r h = go w.foreman.up refl
    where
      ups : (i : ℕ) → i < b.workers → IsUp (w.worker i).up
      ups = h.split.before

      began : (js : List Note) → w.foreman.up ≡ None → w.foreman.journal ≡ js → Leads b w (AllUp b)
      began [] none empty =
          foreman_does b (AllUp b) w Open (by_foreman (F.opened b.workers [])) tt (λ t. foreman_call b Open (empty t) (none t))
          (record { ups = ups; foreman = record { state = F.begun 0 0; is = refl }; going = refl; room = (let z : last_began 0 (w.foreman.journal ++ Began 0 ∷ []) ≡ 0 = began_append 0 w.foreman.journal (Began 0 ∷ []) in omega arith) })
      began (x ∷ xs) none some =
          let k : ℕ = last_began 0 (x ∷ xs) + 1 in
          let room : k + 1 < W.attempt_cap = (let z : last_began 0 w.foreman.journal ≡ last_began 0 (x ∷ xs) = ap (last_began 0) some in let y : last_began 0 w.foreman.journal + 2 < W.attempt_cap = h.room.opens none in omega arith) in
          foreman_does b (AllUp b) w Open (record { up = Some (F.begun k (last_noted 0 (x ∷ xs))); appends = Began k ∷ []; says = to_all b.workers (Anew k (last_noted 0 (x ∷ xs))) }) tt
          ((λ t. foreman_call b Open (some t) (none t))
          ∙ (λ t. by_foreman (cond (lt-leb W.attempt_cap k (let z : k < W.attempt_cap = omega arith in z) t) (record { state = None; appends = []; says = []; outcome = judged only_full }) (record { state = Some (F.begun k (last_noted 0 (x ∷ xs))); appends = Began k ∷ []; says = to_all b.workers (Anew k (last_noted 0 (x ∷ xs))); outcome = Taken }))))
          (record { ups = ups; foreman = record { state = F.begun k (last_noted 0 (x ∷ xs)); is = refl }; going = refl; room = (let z : last_began 0 (w.foreman.journal ++ Began k ∷ []) ≡ k = began_append 0 w.foreman.journal (Began k ∷ []) in omega arith) })

      go : (o : Option F.Foreman) → w.foreman.up ≡ o → Leads b w (AllUp b)
      go None e = began w.foreman.journal e refl
      go (Some f) e = stay b (AllUp b) w (record { ups = ups; foreman = record { state = f; is = e }; going = h.going f e; room = h.room.begins })

  -- an attempt that has begun, whichever it is
  abbrev Begun : World → Type 0
  Begun v = (k : ℕ) × (n : ℕ) × (n < round_cap) × Joining b k n 0 v

  -- the hundredth tick
  anew_now : (w : World) → Reach b w → (h : AllUp b w) → ltb (h.foreman.state.quiet + 1) F.patience ≡ false → Leads b w Begun
  anew_now w r h long =
      let f : F.Foreman = h.foreman.state in
      let L : ℕ = last_began 0 w.foreman.journal in
      let is : f.attempt ≡ L = foreman_attempt b w r f h.foreman.is in
      let room : f.attempt + 1 < W.attempt_cap = (let z : L + 1 < W.attempt_cap = h.room in omega arith) in
      foreman_does b Begun w Tick (by_foreman (anew b.workers f)) tt
      (foreman_ticks b w f (anew b.workers f) h.foreman.is (ticked_anew b.workers f h.going long room)) (
        f.attempt + 1,
        f.noted,
        foreman_noted b w r f h.foreman.is,
        record {
          foreman = record { quiet = 0; is = refl };
          room = room;
          anew = λ j lt. said_to_each b.workers (Anew (f.attempt + 1) f.noted) w.said j lt;
          split = record {
            before = λ i lt. absurd (omega arith);
            later = λ i le lt.
                let x : IsUp (w.worker i).up = h.ups i lt in
                record { state = x.state; is = x.is; less = (let z : x.state.attempt ≤ L = attempt_begun b w r i lt x.state x.is in omega arith) };
          };
        },
      )

  -- as many ticks as it takes
  wait : (c : ℕ) (w : World) → Reach b w → (h : AllUp b w) → F.patience ≤ c + h.foreman.state.quiet → Leads b w Begun
  wait zero w r h le = anew_now w r h (le-ltb (h.foreman.state.quiet + 1) F.patience (omega arith))
  wait (suc c) w r h le = go (λ v s k l. wait c v s k l) (ltb (h.foreman.state.quiet + 1) F.patience) refl
    where
      f : F.Foreman
      f = h.foreman.state

      g : F.Foreman
      g = quieter f

      Later : World → Type 0
      Later v = (k : AllUp b v) × (F.patience ≤ c + k.foreman.state.quiet)

      go : ((v : World) → Reach b v → (k : AllUp b v) → F.patience ≤ c + k.foreman.state.quiet → Leads b v Begun) → (t : Bool) → ltb (f.quiet + 1) F.patience ≡ t → Leads b w Begun
      go more false e = anew_now w r h e
      go more true e =
          next b Later Begun w r
          (foreman_does b Later w Tick (by_foreman (F.waited b.workers g)) tt
          (foreman_ticks b w f (F.waited b.workers g) h.foreman.is (ticked_waits b.workers f h.going e)) (
            record { ups = h.ups; foreman = record { state = g; is = refl }; going = h.going; room = (let z : last_began 0 (w.foreman.journal ++ []) ≡ last_began 0 w.foreman.journal = began_append 0 w.foreman.journal [] in let y : last_began 0 w.foreman.journal + 1 < W.attempt_cap = h.room in omega arith) },
            (let y : F.patience ≤ suc c + f.quiet = le in omega arith),
          ))
          (λ v s q. more v s q.0 q.1)

module _ (b : Job) (proper : Proper b) where
  join_one : (k n c : ℕ) → c < b.workers → (w : World) → Reach b w → Joining b k n c w → Leads b w (Joining b k n (suc c))
  join_one k n c lt w r h =
      worker_does b (Joining b k n (suc c)) w c (Take foreman_line (Anew k n)) (by_worker (W.taking b c js x foreman_line (Anew k n))) lt said
      (worker_takes b w c x foreman_line (Anew k n) y.is (judged_taken (W.reasons b c js x foreman_line (Anew k n)) refl stale refl refl refl (there (not (eqb n 0 || is_some (checkpoint_of n js))) refl) (lt-leb W.attempt_cap k h.room)))
      (record {
        foreman = h.foreman;
        room = h.room;
        anew = λ j l. h.anew j l;
        split = split_put b.workers c (Fresh k n n) (Waits k) _ w.worker h.split (record { share = W.share_at b c n js; latest = None; is = refl; last = λ less. absurd (omega arith) });
      })
    where
      js : List Record
      js = (w.worker c).journal

      y : Waits k (w.worker c).up
      y = h.split.later c (omega arith) lt

      x : W.Worker
      x = y.state

      stale : leb k x.attempt ≡ false
      stale = lt-leb k x.attempt y.less

      said : Memᴰ (record { from = foreman_line; to = c; message = Anew k n }) w.said
      said = h.anew c lt

      -- the checkpoint is there, since no anew is ever without it
      there : (t : Bool) → not (eqb n 0 || is_some (checkpoint_of n js)) ≡ t → not (eqb n 0 || is_some (checkpoint_of n js)) ≡ false
      there false e = e
      there true e =
          absurd ((never_unready b proper w r c foreman_line lt x y.is (Anew k n) said).1
          (ap (λ (o : Outcome). outcome_number (W.took_by b c js x foreman_line (Anew k n) o).outcome) (judged_missing (W.reasons b c js x foreman_line (Anew k n)) refl stale refl refl refl e)))

  -- to where all are in a new attempt
  pub starts : (w : World) → Reach b w → Room w → Going w → Leads b w (λ v. (k : ℕ) × (n : ℕ) × (n < round_cap) × AllFresh b k n n v)
  starts w r room going =
      let Q : World → Type 0 = λ v. (k : ℕ) × (n : ℕ) × (n < round_cap) × AllFresh b k n n v in
      next b (Opening b b.workers) Q w r (each b b.workers (Opening b) (open_one b) w r (record { room = room; going = going; split = record { before = λ i lt. absurd (omega arith); later = λ i le lt. tt } }))
      (λ v s o. next b (AllUp b) Q v s (open_foreman b v s o)
      (λ u t a. next b (Begun b) Q u t (wait b F.patience u t a (omega arith))
      (λ x y z. next b (Joining b z.0 z.1 b.workers) Q x y (each b b.workers (Joining b z.0 z.1) (join_one z.0 z.1) x y z.3)
      (λ p q j. stay b Q p (z.0, z.1, z.2, record { foreman = j.foreman; from = omega arith; fresh = j.split.before })))))
