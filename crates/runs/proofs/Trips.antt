-- One round of a crew of which nobody is missing: each works, takes each one's batch and is ready, and the foreman lets all go on.
-- Assumes nothing.
use Rattle.std.proofs.Common.{◌≡◌, ℕ, suc, ◌+◌, ◌-◌, ◌<◌, ◌≤◌, Bool, true, false, cond, not, ◌&&◌, ◌||◌, eqb, ltb, List, [], ◌∷◌, ◌++◌, is_some, Some, None, Option, sym, refl, ap, ◌∙◌, subst, add-one, arith}
use mathlib.Core.List.Memᴰ
use mathlib.Core.List.{Memᴰ}
use Rattle.std.proofs.lemmas.Bool.{lt-ltb, lt-leb, eq-eqb, ne_eqb, and_from, or_from, or_left, or_right, cond-true}
use Rattle.meaning.specs.Caps.{round_cap}
use Rattle.meaning.specs.Meaning.{Letter, View, is_over}
use Rattle.crew.specs.Job.{Job, Proper, meant, letters_to, letters_by}
use Rattle.crew.specs.Journals.{Record}
use Rattle.crew.specs.Messages.{Message, Batch, Ready, Go, Anew, Parcel, foreman_line, to_all}
use Rattle.crew.specs.Outcomes.{Taken, only_full, judged}
use Rattle.crew.specs.Worker as W
use Rattle.crew.specs.Foreman as F
use Rattle.runs.specs.World.{World, Machine, put, Take, Tick, Work, by_worker, by_foreman, worker_call, foreman_effect, Reach}
use Rattle.runs.specs.Promise.{TrueMessage, Ended}
use Rattle.runs.proofs.Lists.{all_mem, mem_each, put_here, put_there, below_next, below_all, below_not}
use Rattle.runs.proofs.Outcomes.{judged_taken}
use Rattle.runs.proofs.Said.{said_to_each}
use Rattle.runs.proofs.Truth.{as_if_one}
use Rattle.runs.proofs.Onward.{Split, split_at, split_put, Leads, stay, next, each, worker_does, foreman_does}
use Rattle.runs.proofs.Batches.{batch_well_formed, batch_between, over_silent}
use Rattle.runs.proofs.Shapes.{in_round, awaiting, Fresh, Awaits, AllFresh, worker_ticks, worker_takes, foreman_takes}

-- a worker on its way through round r of attempt k
module _ (k r : ℕ) where
  -- it has worked, and got nothing yet
  record Worked (o : Option W.Worker) : Type 0 where
    share : View
    view : View
    latest : Option ℕ
    is : o ≡ Some (in_round k r share (Some view) W.nothing_got false latest)

  -- it has worked, and got the batches of the workers below d
  record Part (d : ℕ) (o : Option W.Worker) : Type 0 where
    share : View
    view : View
    got : ℕ → Option (List Letter)
    latest : Option ℕ
    is : o ≡ Some (in_round k r share (Some view) got false latest)
    has : (j : ℕ) → j < d → is_some (got j) ≡ true
    lacks : (j : ℕ) → d ≤ j → is_some (got j) ≡ false

  -- it went on
  record Went (over : Bool) (o : Option W.Worker) : Type 0 where
    share : View
    latest : Option ℕ
    is : o ≡ Some (in_round k (r + 1) share None W.nothing_got over latest)
    last : W.is_due (r + 1) ≡ true → latest ≡ Some (r + 1)

  -- a batch from i to j was said; i said that it is ready
  abbrev Under : (i j : ℕ) → List Parcel → Type 0
  Under i j ps = (ls : List Letter) × Memᴰ (record { from = i; to = j; message = Batch k r i j ls }) ps

  abbrev Told : (i : ℕ) → List Parcel → Type 0
  Told i ps = (e : Bool) × Memᴰ (record { from = i; to = foreman_line; message = Ready k r e }) ps

  under_more : (i j : ℕ) (qs ps : List Parcel) → Under i j ps → Under i j (qs ++ ps)
  under_more i j qs ps h = (h.0, Memᴰ.append_right qs h.1)

  told_more : (i : ℕ) (qs ps : List Parcel) → Told i ps → Told i (qs ++ ps)
  told_more i qs ps h = (h.0, Memᴰ.append_right qs h.1)

-- round r of attempt k, which began from round n
module _ (b : Job) (k n r : ℕ) where
  record Working (c : ℕ) (w : World) : Type 0 where
    foreman : Awaits k n r w.foreman.up
    split : Split b.workers c (Worked k r) (Fresh k n r) w.worker
    under : (i : ℕ) → i < c → (j : ℕ) → j < b.workers → Under k r i j w.said

  -- the workers below c have all batches, and worker c those of the workers below d
  record Taking (c d : ℕ) (w : World) : Type 0 where
    foreman : Awaits k n r w.foreman.up
    under : (i : ℕ) → i < b.workers → (j : ℕ) → j < b.workers → Under k r i j w.said
    before : (i : ℕ) → i < c → Part k r b.workers (w.worker i).up
    now : Part k r d (w.worker c).up
    later : (i : ℕ) → c < i → i < b.workers → Worked k r (w.worker i).up
    told : (i : ℕ) → i < c → Told k r i w.said

  -- the workers below c have all batches, and said so
  record Telling (c : ℕ) (w : World) : Type 0 where
    foreman : Awaits k n r w.foreman.up
    under : (i : ℕ) → i < b.workers → (j : ℕ) → j < b.workers → Under k r i j w.said
    split : Split b.workers c (Part k r b.workers) (Worked k r) w.worker
    told : (i : ℕ) → i < c → Told k r i w.said

  -- all have, and the foreman has heard so of the workers below c
  record Hearing (c : ℕ) (w : World) : Type 0 where
    ready : ℕ → Bool
    ending : Bool
    quiet : ℕ
    is : w.foreman.up ≡ Some (awaiting k n r ready ending false n (λ j. n) quiet)
    has : (j : ℕ) → j < c → ready j ≡ true
    lacks : (j : ℕ) → c ≤ j → ready j ≡ false
    silent : is_over b.places (meant b (suc r)) ≡ true → ending ≡ true
    full : (i : ℕ) → i < b.workers → Part k r b.workers (w.worker i).up
    told : (i : ℕ) → i < b.workers → Told k r i w.said

  -- the foreman said go, and the workers below c went
  record Stepping (over : Bool) (c : ℕ) (w : World) : Type 0 where
    quiet : ℕ
    is : w.foreman.up ≡ Some (awaiting k n (r + 1) (λ j. false) true over n (λ j. n) quiet)
    go : (j : ℕ) → j < b.workers → Memᴰ (record { from = foreman_line; to = j; message = Go k (r + 1) n over }) w.said
    split : Split b.workers c (Went k r over) (Part k r b.workers) w.worker

  -- some went, and it is over if the meaning is
  abbrev Off : (c : ℕ) → World → Type 0
  Off c v = (over : Bool) × (is_over b.places (meant b (suc r)) ≡ true → over ≡ true) × Stepping over c v

  -- all are in the next round, or it is over
  abbrev pub Come : (over : Bool) → World → Type 0
  Come false v = AllFresh b k n (r + 1) v
  Come true v = Ended b v

  -- and it is over just where the meaning is
  abbrev pub Tripped : World → Type 0
  Tripped v = (over : Bool) × (over ≡ is_over b.places (meant b (r + 1))) × Come over v

module _ (b : Job) (proper : Proper b) where
  -- what is said is true
  true_message : (w : World) → Reach b w → (i j : ℕ) (m : Message) → Memᴰ (record { from = i; to = j; message = m }) w.said → TrueMessage b i m
  true_message w h i j m e = all_mem (λ (p : Parcel). TrueMessage b p.from p.message) e (as_if_one b proper w h).said

module _ (b : Job) (proper : Proper b) (k n r : ℕ) (le : n ≤ r) (low : r < round_cap) where
  work_one : (c : ℕ) → c < b.workers → (w : World) → Reach b w → Working b k n r c w → Leads b w (Working b k n r (suc c))
  work_one c lt w re h =
      worker_does b (Working b k n r (suc c)) w c Work (by_worker (W.did_work b c z)) lt tt
      (ap (λ (o : Option W.Worker). worker_call b c Work (w.worker c).journal o) y.is ∙ (λ t. by_worker (cond (lt-ltb r round_cap low t) (W.did_work b c z) (W.unmoved x (judged only_full)))))
      (record {
        foreman = h.foreman;
        split = split_put b.workers c (Worked k r) (Fresh k n r) _ w.worker h.split (record { share = y.share; view = W.worked_of b c r y.share; latest = y.latest; is = refl });
        under = below_next (λ i. (j : ℕ) → j < b.workers → Under k r i j (says ++ w.said)) c
            (λ i l j lj. under_more k r i j says w.said (h.under i l j lj))
            (λ j lj. (letters_to b j (W.worked_of b c r y.share).post, Memᴰ.append_left w.said (Memᴰ.append_left (W.says_ready b c z) (mem_each (W.batch_to b c z) b.workers j lj))));
      })
    where
      y : Fresh k n r (w.worker c).up
      y = h.split.later c (omega arith) lt

      x : W.Worker
      x = in_round k r y.share None W.nothing_got false y.latest

      z : W.Worker
      z = W.with_worked b c x

      says : List Parcel
      says = (W.did_work b c z).says

  take_one : (c : ℕ) → c < b.workers → (d : ℕ) → d < b.workers → (w : World) → Reach b w → Taking b k n r c d w → Leads b w (Taking b k n r c (suc d))
  take_one c lt d ld w re h =
      worker_does b (Taking b k n r c (suc d)) w c (Take d (Batch k r d c ls)) (by_worker (W.taking b c js x d (Batch k r d c ls))) lt u.1
      (worker_takes b w c x d (Batch k r d c ls) y.is
      (judged_taken (W.reasons b c js x d (Batch k r d c ls))
      (λ t. not (lt-ltb d b.workers ld t && lt-ltb d b.workers ld t && lt-ltb c b.workers lt t && formed t))
      (λ t. not (true && eq-eqb k k refl t && eq-eqb r r refl t && true))
      (y.lacks d (omega arith))
      (λ t. not (eq-eqb c c refl t && eq-eqb d d refl t && between t))
      refl refl refl))
      (record {
        foreman = h.foreman;
        under = λ i li j lj. under_more k r i j says w.said (h.under i li j lj);
        before = λ i l. put_there (λ (o : Machine W.Worker Record). Part k r b.workers o.up) c _ w.worker i (omega arith) (h.before i l);
        now = put_here (λ (o : Machine W.Worker Record). Part k r (suc d) o.up) c _ w.worker
            (record {
              share = y.share;
              view = y.view;
              got = put d (Some ls) y.got;
              latest = y.latest;
              is = refl;
              has = below_next (λ j. is_some (put d (Some ls) y.got j) ≡ true) d
                  (λ j l. put_there (λ (o : Option (List Letter)). is_some o ≡ true) d (Some ls) y.got j (omega arith) (y.has j l))
                  (put_here (λ (o : Option (List Letter)). is_some o ≡ true) d (Some ls) y.got refl);
              lacks = λ j l. put_there (λ (o : Option (List Letter)). is_some o ≡ false) d (Some ls) y.got j (omega arith) (y.lacks j (omega arith));
            });
        later = λ i l m. put_there (λ (o : Machine W.Worker Record). Worked k r o.up) c _ w.worker i (omega arith) (h.later i l m);
        told = λ i l. told_more k r i says w.said (h.told i l);
      })
    where
      js : List Record
      js = (w.worker c).journal

      y : Part k r d (w.worker c).up
      y = h.now

      x : W.Worker
      x = in_round k r y.share (Some y.view) y.got false y.latest

      u : Under k r d c w.said
      u = h.under d ld c lt

      ls : List Letter
      ls = u.0

      meaning : ls ≡ letters_to b c (letters_by b d (meant b (suc r)).post)
      meaning = (true_message b proper w re d c (Batch k r d c ls) u.1).1

      formed : W.well_formed b ls ≡ true
      formed = ap (W.well_formed b) meaning ∙ batch_well_formed b d c (suc r)

      between : W.between b d c ls ≡ true
      between = ap (W.between b d c) meaning ∙ batch_between b d c (suc r)

      says : List Parcel
      says = (W.taking b c js x d (Batch k r d c ls)).says

  tell_one : (c : ℕ) → c < b.workers → (w : World) → Reach b w → Taking b k n r c b.workers w → Leads b w (Telling b k n r (suc c))
  tell_one c lt w re h =
      worker_does b (Telling b k n r (suc c)) w c Tick (by_worker (W.ticked b c x)) lt tt (worker_ticks b w c x y.is)
      (record {
        foreman = h.foreman;
        under = λ i li j lj. under_more k r i j says w.said (h.under i li j lj);
        split = split_at b.workers c (Part k r b.workers) (Worked k r) _ w.worker h.before h.later
            (record { share = y.share; view = y.view; got = y.got; latest = y.latest; is = refl; has = y.has; lacks = y.lacks });
        told = below_next (λ i. Told k r i (says ++ w.said)) c (λ i l. told_more k r i says w.said (h.told i l)) now;
      })
    where
      y : Part k r b.workers (w.worker c).up
      y = h.now

      x : W.Worker
      x = in_round k r y.share (Some y.view) y.got false y.latest

      says : List Parcel
      says = (W.ticked b c x).says

      said : Parcel
      said = W.to_foreman c (Ready k r (W.is_silent b x))

      now : Told k r c (says ++ w.said)
      now = (
        W.is_silent b x,
        Memᴰ.append_left w.said (Memᴰ.append_left (W.says_put_by c k y.latest) (Memᴰ.append_right (W.says_batches b c x)
            (subst (λ (t : Bool). Memᴰ said (cond t (said ∷ []) [])) (sym (below_all b.workers (λ j. is_some (y.got j)) y.has)) (Memᴰ.head refl)))),
      )

  -- worker c takes all batches and says that it is ready
  ready_one : (c : ℕ) → c < b.workers → (w : World) → Reach b w → Telling b k n r c w → Leads b w (Telling b k n r (suc c))
  ready_one c lt w re h =
      let y : Worked k r (w.worker c).up = h.split.later c (omega arith) lt in
      next b (Taking b k n r c b.workers) (Telling b k n r (suc c)) w re
      (each b b.workers (Taking b k n r c) (take_one c lt) w re
      (record {
        foreman = h.foreman;
        under = h.under;
        before = h.split.before;
        now = record { share = y.share; view = y.view; got = W.nothing_got; latest = y.latest; is = y.is; has = λ j l. absurd (omega arith); lacks = λ j l. refl };
        later = λ i l m. h.split.later i (omega arith) m;
        told = h.told;
      }))
      (tell_one c lt)

  module _ (c : ℕ) (lt : c < b.workers) (w : World) (re : Reach b w) (h : Hearing b k n r c w) where
    abbrev f : F.Foreman
    f = awaiting k n r h.ready h.ending false n (λ j. n) h.quiet

    abbrev said : Told k r c w.said
    said = h.told c lt

    abbrev e : Bool
    e = said.0

    abbrev g : F.Foreman
    g = F.with_ready f c e

    heard : foreman_effect b w (Take c (Ready k r e)) ≡ by_foreman (F.counted b.workers g)
    heard =
        foreman_takes b w f c (Ready k r e) h.is
        (judged_taken (F.reasons b.workers f c (Ready k r e))
        (λ t. not (lt-ltb c b.workers lt t))
        (λ t. not (eq-eqb k k refl t && eq-eqb r r refl t && true && not (h.lacks c (let z : c ≤ c = omega arith in z) t)))
        refl refl refl refl (lt-leb round_cap r low))

    -- it ends if all do, and where the meaning is over each does
    ends : is_over b.places (meant b (suc r)) ≡ true → (h.ending && e) ≡ true
    ends over = and_from h.ending e (h.silent over) (true_message b proper w re c foreman_line (Ready k r e) said.1 ∙ over_silent b c (suc r) over)

    now_has : (j : ℕ) → j < suc c → (eqb j c || h.ready j) ≡ true
    now_has = below_next (λ j. (eqb j c || h.ready j) ≡ true) c (λ j l. or_right (eqb j c) (h.ready j) (h.has j l)) (or_left (eqb c c) (h.ready c) (eq-eqb c c refl))

    now_lacks : (j : ℕ) → suc c ≤ j → (eqb j c || h.ready j) ≡ false
    now_lacks j l = or_from (eqb j c) (h.ready j) (ne_eqb j c (omega arith)) (h.lacks j (omega arith))

    hear_one : suc c < b.workers → Leads b w (Hearing b k n r (suc c))
    hear_one more =
        foreman_does b (Hearing b k n r (suc c)) w (Take c (Ready k r e)) (by_foreman (F.unmoved g Taken)) said.1
        (heard ∙ (λ t. by_foreman (cond (below_not b.workers g.ready (suc c) more (now_lacks (suc c) (let z : suc c ≤ suc c = omega arith in z)) t) (record { state = Some (F.advanced g); appends = []; says = to_all b.workers (F.saying (F.advanced g)); outcome = Taken }) (F.unmoved g Taken))))
        (record { ready = λ j. eqb j c || h.ready j; ending = h.ending && e; quiet = 0; is = refl; has = now_has; lacks = now_lacks; silent = ends; full = h.full; told = h.told })

    hear_last : b.workers ≡ suc c → Leads b w (Off b k n r 0)
    hear_last last =
        foreman_does b (Off b k n r 0) w (Take c (Ready k r e)) (record { up = Some (F.advanced g); appends = []; says = to_all b.workers (Go k (r + 1) n (h.ending && e)) }) said.1
        (heard
        ∙ (λ t. by_foreman (cond (below_all b.workers g.ready (λ j l. now_has j (let z : j < suc c = omega arith in z)) t) (record { state = Some (F.advanced g); appends = []; says = to_all b.workers (F.saying (F.advanced g)); outcome = Taken }) (F.unmoved g Taken)))
        ∙ (λ t. record { up = Some (F.advanced g); appends = []; says = to_all b.workers (cond (ne_eqb (r + 1) n (λ is. let z : r + 1 ≡ n = is in omega arith) t && ltb 0 k) (Anew k n) (Go k (r + 1) n (h.ending && e))) })) (
          h.ending && e,
          ends,
          record {
            quiet = 0;
            is = refl;
            go = λ j l. said_to_each b.workers (Go k (r + 1) n (h.ending && e)) w.said j l;
            split = record { before = λ i l. absurd (omega arith); later = λ i l m. h.full i m };
          },
        )

  step_one : (over : Bool) (c : ℕ) → c < b.workers → (w : World) → Reach b w → Stepping b k n r over c w → Leads b w (Stepping b k n r over (suc c))
  step_one over c lt w re h =
      worker_does b (Stepping b k n r over (suc c)) w c (Take foreman_line (Go k (r + 1) n over)) (by_worker (W.taking b c js x foreman_line (Go k (r + 1) n over))) lt (h.go c lt)
      (worker_takes b w c x foreman_line (Go k (r + 1) n over) y.is
      (judged_taken (W.reasons b c js x foreman_line (Go k (r + 1) n over)) refl (λ t. not (true && eq-eqb k k refl t && eq-eqb (r + 1) (r + 1) refl t)) refl refl
      (λ t. not (below_all b.workers (λ j. is_some (y.got j)) y.has t)) refl refl))
      (record {
        quiet = h.quiet;
        is = h.is;
        go = λ j l. Memᴰ.append_right says (h.go j l);
        split = split_put b.workers c (Went k r over) (Part k r b.workers) _ w.worker h.split
            (record { share = W.next_share b x; latest = cond (W.is_due (r + 1)) (Some (r + 1)) y.latest; is = refl; last = λ due. cond-true (W.is_due (r + 1)) (Some (r + 1)) y.latest due });
      })
    where
      js : List Record
      js = (w.worker c).journal

      y : Part k r b.workers (w.worker c).up
      y = h.split.later c (omega arith) lt

      x : W.Worker
      x = in_round k r y.share (Some y.view) y.got false y.latest

      says : List Parcel
      says = (W.taking b c js x foreman_line (Go k (r + 1) n over)).says

  -- over just where the meaning is, since a go that says so is true
  over_meant : (over : Bool) (c : ℕ) (w : World) → Reach b w → (is_over b.places (meant b (suc r)) ≡ true → over ≡ true) → Stepping b k n r over c w → over ≡ is_over b.places (meant b (r + 1))
  over_meant over c w re from h = go over (is_over b.places (meant b (r + 1))) (λ e. from (subst (λ (s : ℕ). is_over b.places (meant b s) ≡ true) (add-one r) e)) (true_message b proper w re foreman_line 0 (Go k (r + 1) n over) (h.go 0 (omega (arith, proper.some))))
    where
      go : (x y : Bool) → (y ≡ true → x ≡ true) → (x ≡ true → y ≡ true) → x ≡ y
      go true y p q = sym (q refl)
      go false true p q = p refl
      go false false p q = refl

  come : (over : Bool) (w : World) → Stepping b k n r over b.workers w → Come b k n r over w
  come false w h =
      record {
        foreman = record { quiet = h.quiet; is = h.is };
        from = omega arith;
        fresh = λ i lt. let y : Went k r false (w.worker i).up = h.split.before i lt in record { share = y.share; latest = y.latest; is = y.is; last = λ less. y.last };
      }
  come true w h =
      record {
        foreman = (awaiting k n (r + 1) (λ j. false) true true n (λ j. n) h.quiet, h.is, refl);
        workers = λ i lt. let y : Went k r true (w.worker i).up = h.split.before i lt in (in_round k (r + 1) y.share None W.nothing_got true y.latest, y.is, refl, refl);
      }

  pub trip : (w : World) → Reach b w → AllFresh b k n r w → Leads b w (Tripped b k n r)
  trip w re h = work w re h
    where
      m : ℕ
      m = b.workers

      Q : World → Type 0
      Q = Tripped b k n r

      step : (v : World) → Reach b v → Off b k n r 0 v → Leads b v Q
      step v rv q =
          next b (Stepping b k n r q.0 m) Q v rv (each b m (Stepping b k n r q.0) (step_one q.0) v rv q.2)
          (λ u ru s. stay b Q u (q.0, over_meant q.0 m u ru q.1 s, come q.0 u s))

      hear : (v : World) → Reach b v → Telling b k n r m v → Leads b v Q
      hear v rv q =
          let some : 1 ≤ m = proper.some in
          next b (Hearing b k n r (m - 1)) Q v rv
          (each b (m - 1) (Hearing b k n r) (λ c lt u ru s. hear_one c (let z : c < m = omega arith in z) u ru s (let z : suc c < m = omega arith in z)) v rv
          (record { ready = λ j. false; ending = true; quiet = q.foreman.quiet; is = q.foreman.is; has = λ j l. absurd (omega arith); lacks = λ j l. refl; silent = λ o. refl; full = q.split.before; told = q.told }))
          (λ u ru s. next b (Off b k n r 0) Q u ru (hear_last (m - 1) (let z : m - 1 < m = omega arith in z) u ru s (let z : m ≡ suc (m - 1) = omega arith in z)) step)

      tell : (v : World) → Reach b v → Working b k n r m v → Leads b v Q
      tell v rv q =
          next b (Telling b k n r m) Q v rv
          (each b m (Telling b k n r) ready_one v rv
          (record { foreman = q.foreman; under = q.under; split = record { before = λ i l. absurd (omega arith); later = λ i l lt. q.split.before i lt }; told = λ i l. absurd (omega arith) }))
          hear

      work : (v : World) → Reach b v → AllFresh b k n r v → Leads b v Q
      work v rv q =
          next b (Working b k n r m) Q v rv
          (each b m (Working b k n r) work_one v rv
          (record { foreman = q.foreman; split = record { before = λ i l. absurd (omega arith); later = λ i l lt. q.fresh i lt }; under = λ i l. absurd (omega arith) }))
          tell
