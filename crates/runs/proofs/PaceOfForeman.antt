-- The pace of the foreman: each call keeps it. An attempt begins where all can begin, and goes on when all are ready.
-- Assumes nothing.
use Rattle.std.proofs.Common.{◌≡◌, ℕ, ◌+◌, ◌%◌, ◌<◌, ◌≤◌, Bool, true, false, cond, not, ◌&&◌, ◌||◌, eqb, ltb, leb, ◌⊎◌, List, [], ◌∷◌, ◌++◌, length, Some, None, Option, sym, refl, ap, ◌∙◌, subst, inl, inr, append-nil, arith}
use Rattle.std.specs.List.{range_with_len, AllByRecursion}
use Rattle.std.proofs.ByRecursion.{All-append}
use Rattle.std.proofs.lemmas.Bool.{eqb-true, ltb-true, leb-true, leb-false, not-false, and_parts, or_cases, or_right, false≢true}
use Rattle.meaning.specs.Caps.{round_cap}
use Rattle.crew.specs.Job.{Job, all_below}
use Rattle.crew.specs.Journals.{Record, Note, Began, Noted, last_began, last_noted}
use Rattle.crew.specs.Messages.{Message, Batch, Ready, Go, Anew, PutBy, Hello, Parcel, foreman_line, to_all}
use Rattle.crew.specs.Outcomes.{Taken, judged, is_taken, only_full}
use Rattle.crew.specs.Worker.{Worker, is_due, attempt_cap}
use Rattle.crew.specs.Foreman.{Foreman, Reply, unmoved, begun, saying, begins, opened, ticked, is_report, reasons, with_ready, advanced, counted, with_kept, least_kept, notes, taking, took}
use Rattle.runs.specs.World.{World, Machine, Effect, Call, Open, Take, Tick, Work, by_foreman, put, foreman_call, Heard}
use Rattle.runs.proofs.Lists.{all_mem, all_made, only, put_same, put_other, all_below_lem, least_is, least_first, least_le}
use Rattle.runs.proofs.Journals.{level, has, began_append, noted_append}
use Rattle.runs.proofs.Outcomes.{Clear, clear}
use Rattle.runs.proofs.Ticks.{quieter, ticked_any}
use Rattle.runs.proofs.Pace.{done_by, Stored, starts_at, Ghost, Reached, In, Own, Told, Sound, Leads, Hears, Fresh, Paced, Pace, Later, said_later, in_later, before}

module _ (b : Job) (ws : ℕ → Machine Worker Record) (s : List Parcel) where
  abbrev world : Option Foreman → List Note → List Parcel → World
  world o js t = record { worker = ws; foreman = record { up = o; journal = js }; said = t }

  -- what a call comes to: a world that keeps pace, and at most one note
  abbrev pub Turned : List Note → Effect Foreman Note → Type 0
  Turned js e = Pace b (world e.up (js ++ e.appends) (e.says ++ s)) × (length e.appends ≤ 1)

  abbrev Says : Ghost → List Parcel → Type 0
  Says g t = AllByRecursion (Sound b g ws) t

  abbrev HearsAll : Ghost → Foreman → Type 0
  HearsAll g f = (j : ℕ) → j < b.workers → Hears b g f j (ws j)

  -- the same to each
  says_all : (g : Ghost) (m : Message) → ((x : Machine Worker Record) → Told b g x m) → Says g (to_all b.workers m)
  says_all g m h = all_made (Sound b g ws) (λ j. record { from = foreman_line; to = j; message = m }) (λ j. h (ws foreman_line)) (range_with_len 0 b.workers)

  fresh_up : (g h : Ghost) (f f' : Foreman) (js : List Note) → Fresh g (Some f) js → Fresh h (Some f') js
  fresh_up g h f f' [] c = absurd c
  fresh_up g h f f' (x ∷ js) c = tt

  fresh_more : (g : Ghost) (o : Option Foreman) (js : List Note) (x : Note) → Fresh g o (js ++ x ∷ [])
  fresh_more g o [] x = tt
  fresh_more g o (y ∷ js) x = tt

  -- NOTHING NEW FOR THE GHOSTS

  -- the foreman changes, with nothing noted
  stays : (g : Ghost) (o o' : Option Foreman) (js : List Note) → Paced b g (world o js s) → (t : List Parcel) → Says g t → Fresh g o' js → ((f : Foreman) → o' ≡ Some f → Leads g f) → ((f : Foreman) → o' ≡ Some f → HearsAll g f) →
      Turned js (record { up = o'; appends = []; says = t })
  stays g o o' js h t says fresh leads hears = (
    (
      g,
      subst (λ (l : List Note). Paced b g (world o' l (t ++ s))) (sym (append-nil js))
          (record {
            began = h.began;
            lastly = h.lastly;
            first = h.first;
            fresh = fresh;
            due = h.due;
            low = h.low;
            workers = h.workers;
            said = All-append (Sound b g ws) t s says h.said;
            leads = leads;
            hears = hears;
          }),
    ),
    omega arith,
  )

  stays_up : (g : Ghost) (f f' : Foreman) (js : List Note) → Paced b g (world (Some f) js s) → (t : List Parcel) → Says g t → Leads g f' → HearsAll g f' → Turned js (record { up = Some f'; appends = []; says = t })
  stays_up g f f' js h t says leads hears = stays g (Some f) (Some f') js h t says (fresh_up g g f f' js h.fresh) (only (Leads g) f' leads) (only (HearsAll g) f' hears)

  unmoves : (g : Ghost) (o : Option Foreman) (js : List Note) → Paced b g (world o js s) → Turned js (record { up = o; appends = []; says = [] })
  unmoves g o js h = stays g o o js h [] tt h.fresh h.leads h.hears

  -- AN ATTEMPT BEGINS

  begun_leads : (g : Ghost) (k r : ℕ) → k ≡ g.attempt → r ≡ g.from g.attempt → r ≡ g.top g.attempt → g.over g.attempt ≡ false → r ≡ g.noted → is_due r ≡ true → r < round_cap → Leads g (begun k r)
  begun_leads g k r a f t o n d l = record { attempt = a; start = f; at = t; over = sym o; noted = n; low = omega arith; rising = omega arith; due = λ j. d }

  begun_hears : (g : Ghost) (k r : ℕ) → r ≡ g.from g.attempt → HearsAll g (begun k r)
  begun_hears g k r e j l = record { ready = λ q. absurd (false≢true q); kept = λ t d p q. absurd (omega arith) }

  anew : (g : Ghost) (o : Option Foreman) (js : List Note) → Paced b g (world o js s) → (k r : ℕ) → k ≡ g.attempt + 1 → r ≡ g.noted →
      Turned js (record { up = Some (begun k r); appends = Began k ∷ []; says = to_all b.workers (Anew k r) })
  anew g o js h k r ke re = (
    (
      g',
      record {
        began = began_append 0 js (Began k ∷ []);
        lastly = noted_append 0 js (Began k ∷ []) ∙ h.lastly;
        first = old r g.from 0 (omega arith) ∙ h.first;
        fresh = fresh_more g' (Some (begun k r)) js (Began k);
        due = h.due;
        low = h.low;
        workers = λ i l. owns i (h.workers i l);
        said = All-append (Sound b g' ws) (to_all b.workers (Anew k r)) s
            (says_all g' (Anew k r) (λ x. (omega arith, sym (put_same k r g.from))))
            (said_later b g g' later ws s h.said);
        leads = only (Leads g') (begun k r) (begun_leads g' k r refl (sym (put_same k r g.from)) (sym (put_same k r g.top)) (put_same k false g.over) re (ap is_due re ∙ h.due) (omega (arith, h.low)));
        hears = only (HearsAll g') (begun k r) (begun_hears g' k r (sym (put_same k r g.from)));
      },
    ),
    omega arith,
  )
    where
      g' : Ghost
      g' = record { attempt = k; noted = g.noted; from = put k r g.from; top = put k r g.top; over = put k false g.over }

      -- an attempt before is as it was
      old : {X : Type 0} (x : X) (f : ℕ → X) (q : ℕ) → q ≤ g.attempt → put k x f q ≡ f q
      old x f q l = put_other k x f q (omega arith)

      later : Later g g'
      later = record {
        attempt = omega arith;
        from = old r g.from;
        top = λ q l t e m c. (let z : put k r g.top q ≡ g.top q = old r g.top q l in (omega arith, λ is. c (is ∙ z) ∙ sym (old false g.over q l)));
      }

      owns : (i : ℕ) → Own b g (ws i) → Own b g' (ws i)
      owns i c =
          record {
            low = (let l : level (ws i).journal ≤ g.attempt + 1 = c.low in omega arith);
            behind = λ q l. behind q l (eqb q k);
            starts = λ q. starts q (eqb q k);
            noted = c.noted;
            attempt = c.attempt;
            here = λ y u j. (let n = c.here y u j in let l : y.attempt ≤ g.attempt = before b g (ws i) c y u in in_later b g g' later (ws i).journal y l (let z : put k r g.top y.attempt ≡ g.top y.attempt = old r g.top y.attempt l in omega (arith, n.done)) n);
          }
        where
          behind : (q : ℕ) → level (ws i).journal ≤ q → (t : Bool) → (cond t r (g.top q) ≡ cond t r (g.from q)) × (cond t false (g.over q) ≡ false)
          behind q l true = (refl, refl)
          behind q l false = c.behind q l

          starts : (q : ℕ) (t : Bool) → starts_at (cond t r (g.from q)) (ws i).journal ≡ true
          starts q true = subst (λ (u : ℕ). starts_at u (ws i).journal ≡ true) (sym re) c.noted
          starts q false = c.starts q

  -- the next attempt of a foreman that is up
  begins_next : (g : Ghost) (f : Foreman) (js : List Note) → Paced b g (world (Some f) js s) → Turned js (by_foreman (begins b.workers f f.noted (Began (f.attempt + 1) ∷ [])))
  begins_next g f js h = anew g (Some f) js h (f.attempt + 1) f.noted (ap (λ (q : ℕ). q + 1) (h.leads f refl).attempt) (h.leads f refl).noted

  opens : (g : Ghost) (js : List Note) → Paced b g (world None js s) → Turned js (by_foreman (opened b.workers js))
  opens g [] h = (
    (
      g,
      record {
        began = h.began;
        lastly = h.lastly;
        first = h.first;
        fresh = tt;
        due = h.due;
        low = h.low;
        workers = h.workers;
        said = h.said;
        leads = only (Leads g) (begun 0 0) (begun_leads g 0 0 h.began from top (ap g.over (sym h.began) ∙ h.fresh.1) h.lastly (ap is_due h.lastly ∙ h.due) (omega arith));
        hears = only (HearsAll g) (begun 0 0) (begun_hears g 0 0 from);
      },
    ),
    omega arith,
  )
    where
      from : 0 ≡ g.from g.attempt
      from = sym h.first ∙ ap g.from h.began

      top : 0 ≡ g.top g.attempt
      top = sym h.fresh.0 ∙ ap g.top h.began
  opens g (x ∷ xs) h = go (leb attempt_cap (last_began 0 (x ∷ xs) + 1))
    where
      k : ℕ
      k = last_began 0 (x ∷ xs) + 1

      r : ℕ
      r = last_noted 0 (x ∷ xs)

      go : (t : Bool) → Turned (x ∷ xs) (by_foreman (cond t (record { state = None; appends = []; says = []; outcome = judged only_full }) (record { state = Some (begun k r); appends = Began k ∷ []; says = to_all b.workers (Anew k r); outcome = Taken })))
      go true = unmoves g None (x ∷ xs) h
      go false = anew g None (x ∷ xs) h k r (ap (λ (q : ℕ). q + 1) h.began) h.lastly

  -- TICKS

  says_it : (g : Ghost) (f : Foreman) → Leads g f → (x : Machine Worker Record) → Told b g x (saying f)
  says_it g f l x = go (eqb f.at f.start && ltb 0 f.attempt)
    where
      a : f.attempt ≡ g.attempt
      a = l.attempt

      go : (t : Bool) → Told b g x (cond t (Anew f.attempt f.start) (Go f.attempt f.at f.noted f.over))
      go true = (omega (arith, a), l.start ∙ sym (ap g.from a))
      go false = (omega (arith, a), (let t : f.at ≡ g.top f.attempt = l.at ∙ sym (ap g.top a) in omega arith), λ e. l.over ∙ sym (ap g.over a))

  ticks : (g : Ghost) (f : Foreman) (js : List Note) → Paced b g (world (Some f) js s) → Turned js (by_foreman (ticked b.workers f))
  ticks g f js h =
      ticked_any b.workers f (λ (y : Reply). Turned js (by_foreman y)) repeats
      (stays_up g f (quieter f) js h (to_all b.workers (saying f)) (says_all g (saying f) (says_it g f l))
      (record { attempt = l.attempt; start = l.start; at = l.at; over = l.over; noted = l.noted; low = l.low; rising = l.rising; due = l.due })
      (λ j lt. (let c = h.hears f refl j lt in record { ready = c.ready; kept = c.kept })))
      repeats
      (begins_next g f js h)
    where
      l : Leads g f
      l = h.leads f refl

      repeats : Turned js (record { up = Some f; appends = []; says = to_all b.workers (saying f) })
      repeats = stays_up g f f js h (to_all b.workers (saying f)) (says_all g (saying f) (says_it g f l)) l (h.hears f refl)

  -- ALL ARE READY

  advances : (g : Ghost) (o : Foreman) (f : Foreman) (js : List Note) → Paced b g (world (Some o) js s) → Leads g f → HearsAll g f → f.at < round_cap → all_below b.workers f.ready ≡ true →
      Turned js (record { up = Some (advanced f); appends = []; says = to_all b.workers (saying (advanced f)) })
  advances g o f js h l hears cap all = (
    (
      g',
      subst (λ (ks : List Note). Paced b g' (world (Some (advanced f)) ks (to_all b.workers (saying (advanced f)) ++ s))) (sym (append-nil js)) (record {
        began = h.began;
        lastly = h.lastly;
        first = h.first;
        fresh = fresh_up g g' o (advanced f) js h.fresh;
        due = h.due;
        low = h.low;
        workers = λ i lt. owns i (ready i lt) (h.workers i lt);
        said = All-append (Sound b g' ws) (to_all b.workers (saying (advanced f))) s (says_all g' (saying (advanced f)) (says_it g' (advanced f) leads))
            (said_later b g g' later ws s h.said);
        leads = only (Leads g') (advanced f) leads;
        hears = only (HearsAll g') (advanced f) (λ j lt. record { ready = λ e. absurd (false≢true e); kept = (hears j lt).kept });
      }),
    ),
    omega arith,
  )
    where
      A : ℕ
      A = g.attempt

      g' : Ghost
      g' = record { attempt = g.attempt; noted = g.noted; from = g.from; top = put g.attempt (f.at + 1) g.top; over = put g.attempt f.ending g.over }

      leads : Leads g' (advanced f)
      leads = record { attempt = l.attempt; start = l.start; at = sym (put_same g.attempt (f.at + 1) g.top); over = sym (put_same g.attempt f.ending g.over); noted = l.noted; low = omega arith; rising = l.rising; due = l.due }

      ready : (i : ℕ) → i < b.workers → Reached b A f.at (ws i)
      ready i lt = (hears i lt).ready (all_below_lem b.workers f.ready all i lt)

      rises : (k : ℕ) → g.top k ≤ put g.attempt (f.at + 1) g.top k
      rises k = go (eqb k A) refl
        where
          go : (t : Bool) → eqb k A ≡ t → g.top k ≤ cond t (f.at + 1) (g.top k)
          go true e = let p : g.top k ≡ f.at = ap g.top (eqb-true k A e) ∙ sym l.at in omega arith
          go false e = omega arith

      -- who was at the round that this attempt had come to isn't at the one that it has come to now
      same : (k t : ℕ) (e : Bool) → t ≤ g.top k → (t ≡ g.top k → e ≡ g.over k) → t ≡ put g.attempt (f.at + 1) g.top k → e ≡ put g.attempt f.ending g.over k
      same k t e le c = go (eqb k A) refl
        where
          go : (u : Bool) → eqb k A ≡ u → t ≡ cond u (f.at + 1) (g.top k) → e ≡ cond u f.ending (g.over k)
          go true q is = let p : g.top k ≡ f.at = ap g.top (eqb-true k A q) ∙ sym l.at in absurd (omega arith)
          go false q is = c is

      later : Later g g'
      later = record { attempt = omega arith; from = λ k m. refl; top = λ k m t e u c. ((let z : g.top k ≤ put g.attempt (f.at + 1) g.top k = rises k in omega arith), same k t e u c) }

      owns : (i : ℕ) → Reached b A f.at (ws i) → Own b g (ws i) → Own b g' (ws i)
      owns i r c =
          record {
            low = c.low;
            behind = behind;
            starts = c.starts;
            noted = c.noted;
            attempt = c.attempt;
            here = λ y u j. in_later b g g' later (ws i).journal y (before b g (ws i) c y u) (done y (c.here y u j) (r.done y u j) (eqb y.attempt A) refl) (c.here y u j);
          }
        where
          behind : (k : ℕ) → level (ws i).journal ≤ k → (put g.attempt (f.at + 1) g.top k ≡ g.from k) × (put g.attempt f.ending g.over k ≡ false)
          behind k le =
              let j : A < level (ws i).journal = r.joined in
              let other : k ≡ A → ⊥ = λ e. omega arith in
              (put_other A (f.at + 1) g.top k other ∙ (c.behind k le).0, put_other A f.ending g.over k other ∙ (c.behind k le).1)

          done : (y : Worker) → In b g (ws i).journal y → (y.attempt ≡ A → f.at < done_by b y) → (t : Bool) → eqb y.attempt A ≡ t → cond t (f.at + 1) (g.top y.attempt) ≤ done_by b y
          done y n d true e = let p : f.at < done_by b y = d (eqb-true y.attempt A e) in omega arith
          done y n d false e = n.done

  -- one more is ready
  counts : (g : Ghost) (f : Foreman) (js : List Note) → Paced b g (world (Some f) js s) → (j : ℕ) (e : Bool) → f.at < round_cap → Reached b g.attempt f.at (ws j) → Turned js (by_foreman (counted b.workers (with_ready f j e)))
  counts g f js h j e cap r = go (all_below b.workers f'.ready) refl
    where
      f' : Foreman
      f' = with_ready f j e

      l : Leads g f
      l = h.leads f refl

      leads : Leads g f'
      leads = record { attempt = l.attempt; start = l.start; at = l.at; over = l.over; noted = l.noted; low = l.low; rising = l.rising; due = l.due }

      hears : HearsAll g f'
      hears i lt = record { ready = λ q. pick (or_cases (eqb i j) (f.ready i) q); kept = (h.hears f refl i lt).kept }
        where
          pick : (eqb i j ≡ true) ⊎ (f.ready i ≡ true) → Reached b g.attempt f.at (ws i)
          pick (inl q) = subst (λ (k : ℕ). Reached b g.attempt f.at (ws k)) (sym (eqb-true i j q)) r
          pick (inr q) = (h.hears f refl i lt).ready q

      go : (t : Bool) → all_below b.workers f'.ready ≡ t → Turned js (by_foreman (cond t (record { state = Some (advanced f'); appends = []; says = to_all b.workers (saying (advanced f')); outcome = Taken }) (unmoved f' Taken)))
      go true q = advances g f f' js h leads hears cap q
      go false q = stays_up g f f' js h [] tt leads hears

  -- A CHECKPOINT MORE

  keeps : (g : Ghost) (f : Foreman) (js : List Note) → Paced b g (world (Some f) js s) → (j r : ℕ) → is_due r ≡ true → r ≤ f.at → Stored (g.from g.attempt) r (ws j).journal → Turned js (by_foreman (notes b.workers f j r))
  keeps g f js h j r due upto stored = go (ltb f.noted L) refl
    where
      L : ℕ
      L = least_kept b.workers f j r

      kept : ℕ → ℕ
      kept i = cond (eqb i j) r (f.kept i)

      l : Leads g f
      l = h.leads f refl

      dues : (i : ℕ) → is_due (kept i) ≡ true
      dues i = pick (eqb i j)
        where
          pick : (t : Bool) → is_due (cond t r (f.kept i)) ≡ true
          pick true = due
          pick false = l.due i

      has_them : (i : ℕ) → i < b.workers → Stored (g.from g.attempt) (kept i) (ws i).journal
      has_them i lt = pick (eqb i j) refl
        where
          pick : (t : Bool) → eqb i j ≡ t → Stored (g.from g.attempt) (cond t r (f.kept i)) (ws i).journal
          pick true e = subst (λ (k : ℕ). Stored (g.from g.attempt) r (ws k).journal) (sym (eqb-true i j e)) stored
          pick false e = (h.hears f refl i lt).kept

      go : (t : Bool) → ltb f.noted L ≡ t → Turned js (by_foreman (cond t (record { state = Some (with_kept f j r L); appends = Noted L ∷ []; says = []; outcome = Taken }) (unmoved (with_kept f j r f.noted) Taken)))
      go false e = stays_up g f (with_kept f j r f.noted) js h [] tt
          (record { attempt = l.attempt; start = l.start; at = l.at; over = l.over; noted = l.noted; low = l.low; rising = l.rising; due = dues })
          (λ i lt. record { ready = (h.hears f refl i lt).ready; kept = has_them i lt })
      go true e = (
        (
          g',
          record {
            began = began_append 0 js (Noted L ∷ []) ∙ h.began;
            lastly = noted_append 0 js (Noted L ∷ []);
            first = h.first;
            fresh = fresh_more g' (Some f') js (Noted L);
            due = due_l;
            low = cap_l;
            workers = λ i lt. (let c = h.workers i lt in record { low = c.low; behind = c.behind; starts = c.starts; noted = or_right (eqb L 0) (has L (ws i).journal) (all_have i lt); attempt = c.attempt; here = λ y u q. (let n = c.here y u q in record { low = n.low; high = n.high; done = n.done; stored = n.stored; latest = n.latest; over = n.over }) });
            said = said_later b g g' later ws s h.said;
            leads = only (Leads g') f' (record { attempt = l.attempt; start = l.start; at = l.at; over = l.over; noted = refl; low = l.low; rising = omega (arith, above, l.rising); due = dues });
            hears = only (HearsAll g') f' (λ i lt. record { ready = (h.hears f refl i lt).ready; kept = has_them i lt });
          },
        ),
        omega arith,
      )
        where
          f' : Foreman
          f' = with_kept f j r L

          g' : Ghost
          g' = record { attempt = g.attempt; noted = L; from = g.from; top = g.top; over = g.over }

          above : f.noted < L
          above = ltb-true f.noted L e

          due_l : is_due L ≡ true
          due_l = least_is (λ q. is_due q ≡ true) r b.workers kept due (λ i lt. dues i)

          -- a round that is due is never the cap
          cap_l : L < round_cap
          cap_l = let z : L % 8 ≡ 0 = eqb-true (L % 8) 0 due_l in let u : L ≤ r = least_first r b.workers kept in omega (arith, l.low)

          all_have : (i : ℕ) → i < b.workers → has L (ws i).journal ≡ true
          all_have i lt = has_them i lt L due_l (omega (arith, above, l.rising, l.start)) (least_le r b.workers kept i lt)

          later : Later g g'
          later = record { attempt = omega arith; from = λ k m. refl; top = λ k m t o u c. (u, c) }

  -- TAKING A MESSAGE

  takes : (g : Ghost) (f : Foreman) (js : List Note) → Paced b g (world (Some f) js s) → (j : ℕ) (m : Message) → Told b g (ws j) m → Turned js (by_foreman (took b.workers f j m))
  takes g f js h j (Batch k r i t ls) c = unmoves g (Some f) js h
  takes g f js h j (Ready k r e) c = go (is_taken (judged (reasons b.workers f j (Ready k r e)))) refl
    where
      go : (v : Bool) → is_taken (judged (reasons b.workers f j (Ready k r e))) ≡ v → Turned js (by_foreman (cond v (taking b.workers f j (Ready k r e)) (unmoved f (judged (reasons b.workers f j (Ready k r e))))))
      go true q =
          let clean : Clear (reasons b.workers f j (Ready k r e)) = clear (reasons b.workers f j (Ready k r e)) q in
          let p = and_parts (eqb k f.attempt && eqb r f.at && not f.over) (not (f.ready j)) (not-false (eqb k f.attempt && eqb r f.at && not f.over && not (f.ready j)) clean.stale) in
          let u = and_parts (eqb k f.attempt && eqb r f.at) (not f.over) p.0 in
          let v = and_parts (eqb k f.attempt) (eqb r f.at) u.0 in
          let is : k ≡ g.attempt = eqb-true k f.attempt v.0 ∙ (h.leads f refl).attempt in
          let same : r ≡ f.at = eqb-true r f.at v.1 in
          counts g f js h j e (leb-false round_cap f.at clean.full) (subst (λ (n : ℕ). Reached b g.attempt n (ws j)) same (subst (λ (n : ℕ). Reached b n r (ws j)) is c))
      go false q = unmoves g (Some f) js h
  takes g f js h j (Go k r n e) c = unmoves g (Some f) js h
  takes g f js h j (Anew k r) c = unmoves g (Some f) js h
  takes g f js h j (PutBy k r) c = go (is_taken (judged (reasons b.workers f j (PutBy k r)))) refl
    where
      go : (v : Bool) → is_taken (judged (reasons b.workers f j (PutBy k r))) ≡ v → Turned js (by_foreman (cond v (taking b.workers f j (PutBy k r)) (unmoved f (judged (reasons b.workers f j (PutBy k r))))))
      go true q = report (ltb r f.start) refl
        where
          p : ((eqb k f.attempt && leb r f.at && is_due r) ≡ true) × ((is_report f r || ltb (f.kept j) r) ≡ true)
          p = and_parts (eqb k f.attempt && leb r f.at && is_due r) (is_report f r || ltb (f.kept j) r)
              (not-false (eqb k f.attempt && leb r f.at && is_due r && (is_report f r || ltb (f.kept j) r)) (clear (reasons b.workers f j (PutBy k r)) q).stale)

          u : ((eqb k f.attempt && leb r f.at) ≡ true) × (is_due r ≡ true)
          u = and_parts (eqb k f.attempt && leb r f.at) (is_due r) p.0

          v : (eqb k f.attempt ≡ true) × (leb r f.at ≡ true)
          v = and_parts (eqb k f.attempt) (leb r f.at) u.0

          is : k ≡ g.attempt
          is = eqb-true k f.attempt v.0 ∙ (h.leads f refl).attempt

          -- nobody reports that a checkpoint is missing
          report : (t : Bool) → ltb r f.start ≡ t → Turned js (by_foreman (cond t (begins b.workers f r (Noted r ∷ Began (f.attempt + 1) ∷ [])) (notes b.workers f j r)))
          report true e =
              let a : g.from k < r = c.1 in let d : r < f.start = ltb-true r f.start e in
              let z : f.start ≡ g.from k = (h.leads f refl).start ∙ sym (ap g.from is) in absurd (omega arith)
          report false e = keeps g f js h j r u.1 (leb-true r f.at v.1) (subst (λ (n : ℕ). Stored (g.from n) r (ws j).journal) is c.2)
      go false q = unmoves g (Some f) js h
  takes g f js h j (Hello k) c = go (is_taken (judged (reasons b.workers f j (Hello k))))
    where
      go : (v : Bool) → Turned js (by_foreman (cond v (taking b.workers f j (Hello k)) (unmoved f (judged (reasons b.workers f j (Hello k))))))
      go true = begins_next g f js h
      go false = unmoves g (Some f) js h

  -- ANY CALL

  pub calls : (g : Ghost) (o : Option Foreman) (js : List Note) → Paced b g (world o js s) → (c : Call) → Heard (world o js s) foreman_line c → Turned js (foreman_call b c js o)
  calls g None js h Open t = opens g js h
  calls g (Some f) js h Open t = unmoves g (Some f) js h
  calls g None js h (Take j m) t = unmoves g None js h
  calls g (Some f) js h (Take j m) t = takes g f js h j m (all_mem (Sound b g ws) t h.said)
  calls g None js h Tick t = unmoves g None js h
  calls g (Some f) js h Tick t = ticks g f js h
  calls g None js h Work t = unmoves g None js h
  calls g (Some f) js h Work t = unmoves g (Some f) js h
