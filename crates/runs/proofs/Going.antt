-- It goes on: round after round, to any that is asked for or to where it is over; and over is said.
-- Assumes nothing.
use Rattle.std.proofs.Common.{◌≡◌, ℕ, zero, suc, ◌+◌, ◌-◌, ◌<◌, ◌≤◌, max, Bool, true, false, ◌⊎◌, None, sym, refl, ◌∙◌, subst, inl, inr, ⊎_elim, arith}
use Rattle.std.proofs.lemmas.Bool.{false≢true}
use Rattle.meaning.specs.Caps.{round_cap}
use Rattle.meaning.specs.Meaning.{is_over}
use Rattle.meaning.proofs.Ending.{over_stays}
use Rattle.crew.specs.Job.{Job, Proper, meant}
use Rattle.crew.specs.Worker.{nothing_got}
use Rattle.runs.specs.World.{World, Reach}
use Rattle.runs.specs.Promise.{AllAt, Ended, Going, GoesOn, OverIsSaid}
use Rattle.runs.proofs.Onward.{Leads, stay, next}
use Rattle.runs.proofs.Shapes.{in_round, awaiting, Fresh, AllFresh}
use Rattle.runs.proofs.Starting.{Room, roomy, starts}
use Rattle.runs.proofs.Trips.{Come, Tripped, trip}

-- it ended after a round from r on, at most s
pub record EndedIn (b : Job) (r s : ℕ) (w : World) : Type 0 where
  pub ended : Ended b w
  pub at : ℕ
  pub after : r < at
  pub upto : at ≤ s
  pub over : is_over b.places (meant b at) ≡ true

all_at : (b : Job) (k n r : ℕ) (w : World) → AllFresh b k n r w → AllAt b k r w
all_at b k n r w h =
    record {
      foreman = (awaiting k n r (λ j. false) true false n (λ j. n) h.foreman.quiet, h.foreman.is, refl, refl, refl);
      workers = λ i lt. let y : Fresh k n r (w.worker i).up = h.fresh i lt in (in_round k r y.share None nothing_got false y.latest, y.is, refl, refl, refl);
    }

-- over from then on
pub later_over : (b : Job) (r s : ℕ) → r ≤ s → is_over b.places (meant b r) ≡ true → is_over b.places (meant b s) ≡ true
later_over b r s le e = subst (λ (t : ℕ). is_over b.places (meant b t) ≡ true) (let z : r + (s - r) ≡ s = omega arith in z) (over_stays b.places b.program r (s - r) e).1

-- rounds from r to s, or fewer if it is over before
abbrev Gone : (b : Job) (k n r s : ℕ) → World → Type 0
Gone b k n r s v = AllFresh b k n s v ⊎ EndedIn b r s v

module _ (b : Job) (proper : Proper b) (k n : ℕ) where
  trips : (c r s : ℕ) → r + c ≡ s → s ≤ round_cap → (w : World) → Reach b w → AllFresh b k n r w → Leads b w (Gone b k n r s)
  trips zero r s is low w re h = stay b (Gone b k n r s) w (inl (subst (λ (t : ℕ). AllFresh b k n t w) (let z : r ≡ s = omega arith in z) h))
  trips (suc c) r s is low w re h = next b (Gone b k n r (r + c)) (Gone b k n r s) w re (trips c r (r + c) refl (omega arith) w re h) (λ v rv g. ⊎_elim (λ q. one v rv q) (λ q. stay b (Gone b k n r s) v (inr (record { ended = q.ended; at = q.at; after = q.after; upto = (let z : q.at ≤ r + c = q.upto in omega arith); over = q.over }))) g)
    where
      come : (over : Bool) (u : World) → over ≡ is_over b.places (meant b (r + c + 1)) → Come b k n (r + c) over u → Gone b k n r s u
      come false u e q = inl (subst (λ (t : ℕ). AllFresh b k n t u) (let z : r + c + 1 ≡ s = omega arith in z) q)
      come true u e q = inr (record { ended = q; at = r + c + 1; after = omega arith; upto = omega arith; over = sym e })

      one : (v : World) → Reach b v → AllFresh b k n (r + c) v → Leads b v (Gone b k n r s)
      one v rv q =
          next b (Tripped b k n (r + c)) (Gone b k n r s) v rv (trip b proper k n (r + c) q.from (omega arith) v rv q)
          (λ u ru t. stay b (Gone b k n r s) u (come t.0 u t.1 t.2))

  -- one round more where the meaning is over: then it is said
  last_trip : (r s : ℕ) → r ≤ s → s < round_cap → is_over b.places (meant b r) ≡ true → (w : World) → Reach b w → AllFresh b k n s w → Leads b w (Ended b)
  last_trip r s le low over w re h =
      next b (Tripped b k n s) (Ended b) w re (trip b proper k n s h.from low w re h) (λ v rv t. stay b (Ended b) v (said t.0 v t.1 t.2))
    where
      said : (o : Bool) (v : World) → o ≡ is_over b.places (meant b (s + 1)) → Come b k n s o v → Ended b v
      said true v e q = q
      said false v e q = absurd (false≢true (e ∙ later_over b r (s + 1) (omega arith) over))

-- all are in a new attempt, at round r or where it began if that is later; or it was over by round r
abbrev pub Arrived : (b : Job) (r : ℕ) → World → Type 0
Arrived b r v = (k : ℕ) × (n : ℕ) × (n < round_cap) × (AllFresh b k n (max n r) v ⊎ EndedIn b 0 r v)

pub arrives : (b : Job) → Proper b → (w : World) → Reach b w → Room w → Going w → (r : ℕ) → r < round_cap → Leads b w (Arrived b r)
arrives b proper w re room going r low =
    next b (λ v. (k : ℕ) × (n : ℕ) × (n < round_cap) × AllFresh b k n n v) (Arrived b r) w re (starts b proper w re room going)
    (λ v rv h.
    let k : ℕ = h.0 in let n : ℕ = h.1 in let few : n < round_cap = h.2 in
    next b (Gone b k n n (max n r)) (Arrived b r) v rv (trips b proper k n (max n r - n) n (max n r) (omega arith) (omega arith) v rv h.3)
    (λ u ru g. stay b (Arrived b r) u (k, n, few, ⊎_elim inl (λ (q : EndedIn b n (max n r) u). inr (record { ended = q.ended; at = q.at; after = (let z : n < q.at = q.after in omega arith); upto = (let z : n < q.at = q.after in let y : q.at ≤ max n r = q.upto in omega arith); over = q.over })) g)))

pub goes_on : GoesOn
goes_on b proper w re room going r low =
    next b (Arrived b r) Q w re (arrives b proper w re (roomy w room) going r low)
    (λ v rv h. stay b Q v (⊎_elim (λ q. inl (h.0, max h.1 r, (let z : r ≤ max h.1 r = omega arith in z), all_at b h.0 h.1 (max h.1 r) v q)) (λ q. inr q.ended) h.3))
  where
    Q : World → Type 0
    Q v = ((k : ℕ) × (s : ℕ) × (r ≤ s) × AllAt b k s v) ⊎ Ended b v

-- if the meaning comes to be over, all are told
pub all_told : (b : Job) → Proper b → (w : World) → Reach b w → Room w → Going w → (r : ℕ) → r < round_cap → is_over b.places (meant b r) ≡ true → Leads b w (Ended b)
all_told b proper w re room going r low over =
    next b (Arrived b r) (Ended b) w re (arrives b proper w re room going r low)
    (λ v rv h. let few : h.1 < round_cap = h.2 in ⊎_elim (λ q. last_trip b proper h.0 h.1 r (max h.1 r) (omega arith) (omega arith) over v rv q) (λ q. stay b (Ended b) v q.ended) h.3)

pub over_is_said : OverIsSaid
over_is_said b proper w re room going r some low over = all_told b proper w re (roomy w room) going r low over
