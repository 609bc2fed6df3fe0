-- Who crashes after over comes back: a worker hears the go again, or says hello and is in an attempt that is over in its turn.
-- Assumes nothing.
use Rattle.std.proofs.Common.{◌≡◌, ℕ, suc, ◌+◌, ◌<◌, ◌≤◌, max, Bool, true, false, cond, not, ◌&&◌, ltb, ◌⊎◌, [], ◌∷◌, ◌++◌, Some, Option, sym, refl, ap, ◌∙◌, subst, inl, inr, ⊎_elim, arith}
use mathlib.Core.List.{Memᴰ}
use Rattle.std.proofs.lemmas.Bool.{eq-eqb, ne_eqb, lt-ltb, lt-leb, not_from_true, cases_eq, false≢true}
use Rattle.meaning.specs.Caps.{round_cap}
use Rattle.meaning.specs.Meaning.{is_over}
use Rattle.crew.specs.Job.{Job, Proper, meant}
use Rattle.crew.specs.Journals.{Record, Began, last_began}
use Rattle.crew.specs.Messages.{Message, Go, Anew, Hello, foreman_line, to_all}
use Rattle.crew.specs.Worker as W
use Rattle.crew.specs.Foreman as F
use Rattle.runs.specs.World.{World, Machine, Open, Take, Tick, by_worker, by_foreman, worker_call, Reach}
use Rattle.runs.specs.Promise.{Ended, Roomy, Going, ComesBack}
use Rattle.runs.proofs.Lists.{nobody, only, put_here, put_there}
use Rattle.runs.proofs.Journals.{level, began_append}
use Rattle.runs.proofs.Outcomes.{judged_taken}
use Rattle.runs.proofs.Ticks.{anew, ticked_over}
use Rattle.runs.proofs.Said.{said_to_each}
use Rattle.runs.proofs.Calls.{ForemanUp}
use Rattle.runs.proofs.Truth.{reach_true}
use Rattle.runs.proofs.Pace.{done_by, Ghost, In, Own, Leads as Paces}
use Rattle.runs.proofs.PaceOfWorker.{done_most, done_now}
use Rattle.runs.proofs.InPace.{in_pace, foreman_attempt}
use Rattle.runs.proofs.Onward.{Split, split_put, split_more, Leads, stay, next, each, worker_does, foreman_does}
use Rattle.runs.proofs.Shapes.{IsUp, foreman_ticks, worker_ticks, worker_takes, foreman_takes}
use Rattle.runs.proofs.Starting.{Room, opens}
use Rattle.runs.proofs.Going.{later_over, all_told}

-- it is in its attempt, and knows that it is over
abbrev Knows : Option W.Worker → Type 0
Knows o = (x : W.Worker) × (o ≡ Some x) × (x.joined ≡ true) × (x.over ≡ true)

-- the foreman is f, which said over
module _ (b : Job) (proper : Proper b) (f : F.Foreman) (over : f.over ≡ true) (low : f.at < round_cap) where
  -- the workers below c know
  record Telling (c : ℕ) (w : World) : Type 0 where
    foreman : w.foreman.up ≡ Some f
    room : Roomy w
    split : Split b.workers c Knows (λ (o : Option W.Worker). Unit {0}) w.worker

  -- and worker c is up, as x
  record Facing (c : ℕ) (x : W.Worker) (w : World) : Type 0 where
    telling : Telling c w
    is : (w.worker c).up ≡ Some x

  abbrev Told : (c : ℕ) → World → Type 0
  Told c v = Telling c v ⊎ Ended b v

  open_one : (c : ℕ) → c < b.workers → (w : World) → Telling c w → Leads b w (λ v. (x : W.Worker) × Facing c x v)
  open_one c lt w h =
      let y : IsUp (worker_call b c Open (w.worker c).journal (w.worker c).up).up = opens b c (w.worker c).journal (w.worker c).up in
      worker_does b (λ v. (x : W.Worker) × Facing c x v) w c Open (worker_call b c Open (w.worker c).journal (w.worker c).up) lt tt refl (
        y.state,
        record {
          telling = record { foreman = h.foreman; room = h.room; split = record { before = λ i l. put_there (λ (m : Machine W.Worker Record). Knows m.up) c _ w.worker i (omega arith) (h.split.before i l); later = λ i l m. tt } };
          is = put_here (λ (m : Machine W.Worker Record). m.up ≡ Some y.state) c _ w.worker y.is;
        },
      )

  module _ (c : ℕ) (lt : c < b.workers) (x : W.Worker) (w : World) (re : Reach b w) (h : Facing c x w) where
    abbrev g : Ghost
    g = (in_pace b re).0

    own : Own b g (w.worker c)
    own = (in_pace b re).1.workers c lt

    paces : Paces g f
    paces = (in_pace b re).1.leads f h.telling.foreman

    -- all joined an attempt that came to be over
    attempt : x.attempt ≡ g.attempt
    attempt =
        let l : level (w.worker c).journal ≡ suc x.attempt = own.attempt x h.is in
        let most : level (w.worker c).journal ≤ g.attempt + 1 = own.low in
        let least : level (w.worker c).journal ≤ g.attempt → ⊥ = λ le. false≢true (sym (own.behind g.attempt le).1 ∙ sym paces.over ∙ over) in
        omega arith

    same : x.attempt ≡ f.attempt
    same = attempt ∙ sym paces.attempt

    module _ (joined : x.joined ≡ true) where
      inside : In b g (w.worker c).journal x
      inside = own.here x h.is joined

      at : f.at ≡ g.top x.attempt
      at = paces.at ∙ ap g.top (sym attempt)

      -- it is in the round that was said to be over, and was told so as it came there
      knows : x.round ≡ f.at → Told (suc c) w
      knows e =
          let so : x.over ≡ true = inside.over (e ∙ at) ∙ ap g.over attempt ∙ sym paces.over ∙ over in
          inl (record { foreman = h.telling.foreman; room = h.telling.room; split = split_more b.workers c Knows (λ (o : Option W.Worker). Unit {0}) w.worker h.telling.split (x, h.is, joined, so) })

      -- it is ready for the last round, and hears the go again
      tell : (x.round ≡ f.at → ⊥) → Leads b w (Told (suc c))
      tell ne =
          next b Said (Told (suc c)) w re
          (foreman_does b Said w Tick (by_foreman (F.waited m f)) tt
          (foreman_ticks b w f (F.waited m f) h.telling.foreman (ticked_over m f over)) (
            record { telling = record { foreman = refl; room = (let z : last_began 0 (w.foreman.journal ++ []) ≡ last_began 0 w.foreman.journal = began_append 0 w.foreman.journal [] in let y : last_began 0 w.foreman.journal + 2 < W.attempt_cap = h.telling.room in omega arith); split = h.telling.split }; is = h.is },
            subst (λ (u : Message). Memᴰ (record { from = foreman_line; to = c; message = u }) (to_all m (F.saying f) ++ w.said)) says (said_to_each m (F.saying f) w.said c lt),
          ))
          take
        where
          m : ℕ
          m = b.workers

          go : Message
          go = Go f.attempt f.at f.noted true

          Said : World → Type 0
          Said v = Facing c x v × Memᴰ (record { from = foreman_line; to = c; message = go }) v.said

          high : x.round ≤ g.top x.attempt
          high = inside.high

          done : g.top x.attempt ≤ done_by b x
          done = inside.done

          most : done_by b x ≤ x.round + 1
          most = done_most b g x

          next_round : f.at ≡ x.round + 1
          next_round = omega (arith, at, high, done, most, ne)

          ready : W.is_ready b x ≡ true
          ready = done_now b g x (omega (arith, at, high, done, ne))

          begun : f.at ≡ f.start → ⊥
          begun e =
              let l : g.from x.attempt ≤ x.round = inside.low in
              let s : f.start ≡ g.from x.attempt = paces.start ∙ ap g.from (sym attempt) in
              omega (arith, next_round)

          says : F.saying f ≡ go
          says = λ t. cond (ne_eqb f.at f.start begun t && ltb 0 f.attempt) (Anew f.attempt f.start) (Go f.attempt f.at f.noted (over t))

          take : (v : World) → Reach b v → Said v → Leads b v (Told (suc c))
          take v rv q =
              worker_does b (Told (suc c)) v c (Take foreman_line go) (by_worker (W.taking b c (v.worker c).journal x foreman_line go)) lt q.1
              (worker_takes b v c x foreman_line go q.0.is
              (judged_taken (W.reasons b c (v.worker c).journal x foreman_line go) refl
              (λ t. not (joined t && eq-eqb f.attempt x.attempt (sym same) t && eq-eqb f.at (x.round + 1) next_round t))
              refl refl (not_from_true (W.is_ready b x) ready) refl refl))
              (inl (record { foreman = q.0.telling.foreman; room = q.0.telling.room; split = split_put m c Knows (λ (o : Option W.Worker). Unit {0}) _ v.worker q.0.telling.split (W.went_on b x true, refl, joined, refl) }))

    -- it says hello, and an attempt begins, in which over is said again
    hello : x.joined ≡ false → Leads b w (Told (suc c))
    hello out =
        next b Said (Told (suc c)) w re
        (worker_does b Said w c Tick (record { up = Some x; appends = []; says = W.to_foreman c (Hello x.attempt) ∷ [] }) lt tt
        (worker_ticks b w c x h.is
        ∙ (λ t. record { up = Some x; appends = []; says = cond (out t) (cond x.over [] (W.says_batches b c x ++ W.says_ready b c x ++ W.says_put_by c x.attempt x.latest)) (W.to_foreman c (Hello x.attempt) ∷ []) }))
        (h.telling.foreman, h.telling.room, Memᴰ.head refl))
        begin
      where
        m : ℕ
        m = b.workers

        Said : World → Type 0
        Said v = (v.foreman.up ≡ Some f) × Roomy v × Memᴰ (record { from = c; to = foreman_line; message = Hello x.attempt }) v.said

        Anew' : World → Type 0
        Anew' v = Room v × Going v

        meaning : is_over b.places (meant b f.at) ≡ true
        meaning = (subst (ForemanUp b) h.telling.foreman (reach_true b proper re).foreman).over over

        begin : (v : World) → Reach b v → Said v → Leads b v (Told (suc c))
        begin v rv q =
            let is : f.attempt ≡ last_began 0 v.foreman.journal = foreman_attempt b v rv f q.0 in
            let room : last_began 0 v.foreman.journal + 2 < W.attempt_cap = q.1 in
            let now : last_began 0 (v.foreman.journal ++ Began (f.attempt + 1) ∷ []) ≡ f.attempt + 1 = began_append 0 v.foreman.journal (Began (f.attempt + 1) ∷ []) in
            next b Anew' (Told (suc c)) v rv
            (foreman_does b Anew' v (Take c (Hello x.attempt)) (by_foreman (anew m f)) q.2
            (foreman_takes b v f c (Hello x.attempt) q.0
            (judged_taken (F.reasons m f c (Hello x.attempt)) (λ t. not (lt-ltb c m lt t)) (λ t. not (eq-eqb x.attempt f.attempt same t)) refl refl refl refl
            (lt-leb W.attempt_cap (f.attempt + 1) (omega arith))))
            (record { opens = λ e. nobody (sym e); begins = omega arith }, only (λ (u : F.Foreman). u.over ≡ false) (F.begun (f.attempt + 1) f.noted) refl))
            (λ u ru a. next b (Ended b) (Told (suc c)) u ru
            (all_told b proper u ru a.0 a.1 (max f.at 1) (omega arith) (later_over b f.at (max f.at 1) (omega arith) meaning))
            (λ z rz e. stay b (Told (suc c)) z (inr e)))

  tell_one : (c : ℕ) → c < b.workers → (w : World) → Reach b w → Told c w → Leads b w (Told (suc c))
  tell_one c lt w re =
      ⊎_elim
      (λ h. next b (λ v. (x : W.Worker) × Facing c x v) (Told (suc c)) w re (open_one c lt w h) (λ v rv q. go v rv q.0 q.1 q.0.joined refl))
      (λ e. stay b (Told (suc c)) w (inr e))
    where
      go : (v : World) → Reach b v → (x : W.Worker) → Facing c x v → (t : Bool) → x.joined ≡ t → Leads b v (Told (suc c))
      go v rv x q false e = hello c lt x v rv q e
      go v rv x q true e = ⊎_elim (λ is. stay b (Told (suc c)) v (knows c lt x v rv q e is)) (λ ne. tell c lt x v rv q e ne) (cases_eq x.round f.at)

  all_back : (w : World) → Reach b w → Telling 0 w → Leads b w (Ended b)
  all_back w re h =
      next b (Told b.workers) (Ended b) w re (each b b.workers Told tell_one w re (inl h))
      (λ v rv. ⊎_elim (λ q. stay b (Ended b) v (record { foreman = (f, q.foreman, over); workers = q.split.before })) (λ e. stay b (Ended b) v e))

pub comes_back : ComesBack
comes_back b proper w re room h =
    all_back b proper h.0 h.2 h.3 w re (record { foreman = h.1; room = room; split = record { before = λ i l. absurd (omega arith); later = λ i l m. tt } })
