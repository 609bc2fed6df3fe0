-- Noting goes on: at a round that is due all say that they put it by, and the foreman notes it.
-- Assumes nothing.
use Rattle.std.proofs.Common.{◌≡◌, ℕ, suc, ◌+◌, ◌*◌, ◌%◌, ◌<◌, ◌≤◌, max, Bool, true, false, cond, not, ◌&&◌, ltb, List, [], ◌∷◌, ◌++◌, Some, None, Option, sym, refl, ◌∙◌, subst, ⊎_elim, arith}
use mathlib.Core.List.Memᴰ
use mathlib.Core.List.{Memᴰ}
use native.Mathlib.Nat.{mul-mod_right}
use Rattle.std.proofs.lemmas.Bool.{lt-ltb, le-ltb, le-leb, ltb-false, eq-eqb, or_right, and_left, cases_lt, true≢false}
use Rattle.crew.specs.Job.{Job}
use Rattle.crew.specs.Journals.{Record, Note, Began, Noted}
use Rattle.crew.specs.Messages.{PutBy, Parcel, foreman_line}
use Rattle.crew.specs.Worker as W
use Rattle.crew.specs.Foreman as F
use Rattle.crew.specs.Outcomes.{Taken}
use Rattle.runs.specs.World.{World, Machine, put, Take, Tick, by_worker, by_foreman, foreman_effect, Reach}
use Rattle.runs.specs.Promise.{NotesOn}
use Rattle.runs.proofs.Lists.{put_same, put_other, put_all, below_next, least_is}
use Rattle.runs.proofs.Outcomes.{judged_taken}
use Rattle.runs.proofs.Onward.{Leads, stay, next, each, worker_does, foreman_does}
use Rattle.runs.proofs.Shapes.{in_round, awaiting, Fresh, AllFresh, worker_ticks, foreman_takes}
use Rattle.runs.proofs.Starting.{roomy}
use Rattle.runs.proofs.Going.{Arrived, arrives}

-- round r is noted
abbrev NotedBy : (r : ℕ) → World → Type 0
NotedBy r v = (f : F.Foreman) × (v.foreman.up ≡ Some f) × (r ≤ f.noted)

-- attempt k began from round n, all are at round r, which is later and due
module _ (b : Job) (k n r : ℕ) (less : n < r) (due : W.is_due r ≡ true) where
  abbrev Said : (i : ℕ) → List Parcel → Type 0
  Said i ps = Memᴰ (record { from = i; to = foreman_line; message = PutBy k r }) ps

  -- the workers below c have said that they put it by
  record Putting (c : ℕ) (w : World) : Type 0 where
    all : AllFresh b k n r w
    said : (i : ℕ) → i < c → Said i w.said

  -- all have, and the foreman has heard it of the workers below c; once of all, it has noted it
  record Noting (c : ℕ) (w : World) : Type 0 where
    noted : ℕ
    kept : ℕ → ℕ
    quiet : ℕ
    is : w.foreman.up ≡ Some (awaiting k n r (λ j. false) true false noted kept quiet)
    has : (j : ℕ) → j < c → kept j ≡ r
    lacks : (j : ℕ) → c ≤ j → kept j ≡ n
    done : b.workers ≤ c → r ≤ noted
    said : (i : ℕ) → i < b.workers → Said i w.said

  put_one : (c : ℕ) → c < b.workers → (w : World) → Reach b w → Putting c w → Leads b w (Putting (suc c))
  put_one c lt w re h =
      worker_does b (Putting (suc c)) w c Tick (by_worker (W.ticked b c x)) lt tt (worker_ticks b w c x y.is)
      (record {
        all = record {
          foreman = h.all.foreman;
          from = h.all.from;
          fresh = put_all (λ (i : ℕ) (o : Machine W.Worker Record). i < b.workers → Fresh k n r o.up) c _ w.worker (λ l. record { share = y.share; latest = y.latest; is = refl; last = y.last }) h.all.fresh;
        };
        said = below_next (λ i. Said i (W.says_put_by c k y.latest ++ w.said)) c (λ i l. Memᴰ.append_right (W.says_put_by c k y.latest) (h.said i l))
            (subst (λ (o : Option ℕ). Said c (W.says_put_by c k o ++ w.said)) (sym (y.last less due)) (Memᴰ.head refl));
      })
    where
      y : Fresh k n r (w.worker c).up
      y = h.all.fresh c lt

      x : W.Worker
      x = in_round k r y.share None W.nothing_got false y.latest

  note_one : (c : ℕ) → c < b.workers → (w : World) → Reach b w → Noting c w → Leads b w (Noting (suc c))
  note_one c lt w re h = go (ltb h.noted (F.least_kept b.workers f c r)) refl
    where
      m : ℕ
      m = b.workers

      f : F.Foreman
      f = awaiting k n r (λ j. false) true false h.noted h.kept h.quiet

      kept : ℕ → ℕ
      kept = put c r h.kept

      no_report : F.is_report f r ≡ false
      no_report = le-ltb r n (omega arith)

      heard : foreman_effect b w (Take c (PutBy k r)) ≡ by_foreman (F.notes m f c r)
      heard =
          foreman_takes b w f c (PutBy k r) h.is
          (judged_taken (F.reasons m f c (PutBy k r))
          (λ t. not (lt-ltb c m lt t))
          (λ t. not (eq-eqb k k refl t && le-leb r r (let z : r ≤ r = omega arith in z) t && due t && or_right (F.is_report f r) (ltb (h.kept c) r) (lt-ltb (h.kept c) r (let z : h.kept c ≡ n = h.lacks c (omega arith) in let y : h.kept c < r = omega arith in y)) t))
          refl refl refl refl (and_left (F.is_report f r) (F.is_last f) no_report))
          ∙ (λ t. by_foreman (cond (no_report t) (F.begins m f r (Noted r ∷ Began (k + 1) ∷ [])) (F.notes m f c r)))

      has : (j : ℕ) → j < suc c → kept j ≡ r
      has = below_next (λ j. kept j ≡ r) c (λ j l. put_other c r h.kept j (omega arith) ∙ h.has j l) (put_same c r h.kept)

      lacks : (j : ℕ) → suc c ≤ j → kept j ≡ n
      lacks j l = put_other c r h.kept j (omega arith) ∙ h.lacks j (omega arith)

      -- once all have said so the least of these is r
      least : m ≤ suc c → r ≤ F.least_kept m f c r
      least all = least_is (λ q. r ≤ q) r m kept (omega arith) (λ j l. let z : kept j ≡ r = has j (omega arith) in omega arith)

      so : (nt : ℕ) → F.least_kept m f c r ≤ nt → (js : List Note) → foreman_effect b w (Take c (PutBy k r)) ≡ record { up = Some (F.with_kept f c r nt); appends = js; says = [] } → Leads b w (Noting (suc c))
      so nt le js is =
          foreman_does b (Noting (suc c)) w (Take c (PutBy k r)) (record { up = Some (F.with_kept f c r nt); appends = js; says = [] }) (h.said c lt) is
          (record { noted = nt; kept = kept; quiet = 0; is = refl; has = has; lacks = lacks; done = λ all. (let z : r ≤ F.least_kept m f c r = least all in omega arith); said = h.said })

      replies : Bool → F.Reply
      replies t = cond t (record { state = Some (F.with_kept f c r (F.least_kept m f c r)); appends = Noted (F.least_kept m f c r) ∷ []; says = []; outcome = Taken }) (F.unmoved (F.with_kept f c r h.noted) Taken)

      go : (t : Bool) → ltb h.noted (F.least_kept m f c r) ≡ t → Leads b w (Noting (suc c))
      go true e = so (F.least_kept m f c r) (omega arith) (Noted (F.least_kept m f c r) ∷ []) (heard ∙ (λ t. by_foreman (replies (e t))))
      go false e = so h.noted (ltb-false h.noted (F.least_kept m f c r) e) [] (heard ∙ (λ t. by_foreman (replies (e t))))

  notes : (w : World) → 1 ≤ b.workers → Reach b w → AllFresh b k n r w → Leads b w (NotedBy r)
  notes w some re h =
      next b (Putting b.workers) (NotedBy r) w re (each b b.workers Putting put_one w re (record { all = h; said = λ i l. absurd (omega arith) }))
      (λ v rv p. next b (Noting b.workers) (NotedBy r) v rv
      (each b b.workers Noting note_one v rv
      (record { noted = n; kept = λ j. n; quiet = p.all.foreman.quiet; is = p.all.foreman.is; has = λ j l. absurd (omega arith); lacks = λ j l. refl; done = λ l. absurd (omega arith); said = p.said }))
      (λ u ru q. stay b (NotedBy r) u (awaiting k n r (λ j. false) true false q.noted q.kept q.quiet, q.is, q.done (omega arith))))

pub notes_on : NotesOn
notes_on b proper w re room going c low before =
    next b (Arrived b r) (NotedBy r) w re (arrives b proper w re (roomy w room) going r low)
    (λ v rv h. ⊎_elim (λ q. come v rv h.0 h.1 q) (λ q. absurd (true≢false (sym q.over ∙ before q.at q.after q.upto))) h.3)
  where
    r : ℕ
    r = 8 * c

    due : W.is_due r ≡ true
    due = eq-eqb (r % 8) 0 (mul-mod_right 8 c)

    come : (v : World) → Reach b v → (k n : ℕ) → AllFresh b k n (max n r) v → Leads b v (NotedBy r)
    come v rv k n h =
        ⊎_elim
        (λ less. notes b k n r less due v proper.some rv (subst (λ (s : ℕ). AllFresh b k n s v) (let l : n < r = less in let z : max n r ≡ r = omega arith in z) h))
        (λ more. stay b (NotedBy r) v (awaiting k n (max n r) (λ j. false) true false n (λ j. n) h.foreman.quiet, h.foreman.is, more))
        (cases_lt n r)
