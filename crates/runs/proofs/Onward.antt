-- Ways put together: one call after another, and the same for each worker in turn.
-- Assumes nothing.
use Rattle.std.proofs.Common.{◌≡◌, ℕ, zero, suc, ◌<◌, ◌≤◌, ◌++◌, Option, sym, subst, arith}
use Rattle.crew.specs.Job.{Job}
use Rattle.crew.specs.Journals.{Record, Note}
use Rattle.crew.specs.Messages.{foreman_line}
use Rattle.crew.specs.Worker.{Worker}
use Rattle.crew.specs.Foreman.{Foreman}
use Rattle.runs.specs.World.{World, Machine, Call, Effect, after, put, worker_effect, foreman_effect, worker_did, foreman_did, Heard, worker, foreman, acts, Reach, then, Way, here, on}
use Rattle.runs.proofs.Lists.{put_here, put_there, below_next}

-- the machines below c are so, the others so
pub record Split {S R : Type 0} (m c : ℕ) (A B : Option S → Type 0) (f : ℕ → Machine S R) : Type 0 where
  pub before : (i : ℕ) → i < c → A (f i).up
  pub later : (i : ℕ) → c ≤ i → i < m → B (f i).up

-- one more is so, at c
pub split_at : {S R : Type 0} (m c : ℕ) (A B : Option S → Type 0) (x : Machine S R) (f : ℕ → Machine S R) → ((i : ℕ) → i < c → A (f i).up) → ((i : ℕ) → c < i → i < m → B (f i).up) → A x.up → Split m (suc c) A B (put c x f)
split_at {S} {R} m c A B x f before later a =
    record {
      before = below_next (λ i. A (put c x f i).up) c (λ i lt. put_there (λ (y : Machine S R). A y.up) c x f i (omega arith) (before i lt)) (put_here (λ (y : Machine S R). A y.up) c x f a);
      later = λ i le lt. put_there (λ (y : Machine S R). B y.up) c x f i (omega arith) (later i (omega arith) lt);
    }

-- the one at c is so already
pub split_more : {S R : Type 0} (m c : ℕ) (A B : Option S → Type 0) (f : ℕ → Machine S R) → Split m c A B f → A (f c).up → Split m (suc c) A B f
split_more m c A B f s a = record { before = below_next (λ i. A (f i).up) c s.before a; later = λ i le lt. s.later i (omega arith) lt }

pub split_put : {S R : Type 0} (m c : ℕ) (A B : Option S → Type 0) (x : Machine S R) (f : ℕ → Machine S R) → Split m c A B f → A x.up → Split m (suc c) A B (put c x f)
split_put m c A B x f s a = split_at m c A B x f s.before (λ i le lt. s.later i (omega arith) lt) a

-- the world once a worker's call, or the foreman's, has come to e
abbrev pub worker_world : World → (i : ℕ) → Effect Worker Record → World
worker_world w i e = record { worker = put i (after (w.worker i) e) w.worker; foreman = w.foreman; said = e.says ++ w.said }

abbrev pub foreman_world : World → Effect Foreman Note → World
foreman_world w e = record { worker = w.worker; foreman = after w.foreman e; said = e.says ++ w.said }

module _ (b : Job) where
  -- there is a way to where Q holds
  abbrev pub Leads : World → (World → Type 0) → Type 0
  Leads w Q = (v : World) × Way b w v × Q v

  pub way_trans : {u v w : World} → Way b u v → Way b v w → Way b u w
  way_trans x here = x
  way_trans x (on y s) = on (way_trans x y) s

  pub way_reach : {w v : World} → Reach b w → Way b w v → Reach b v
  way_reach r here = r
  way_reach r (on y s) = then (way_reach r y) (acts s)

  pub stay : (Q : World → Type 0) (w : World) → Q w → Leads w Q
  stay Q w q = (w, here, q)

  pub next : (Q R : World → Type 0) (w : World) → Reach b w → Leads w Q → ((v : World) → Reach b v → Q v → Leads v R) → Leads w R
  next Q R w r x f = let y : Leads x.0 R = f x.0 (way_reach r x.1) x.2 in (y.0, way_trans x.1 y.1, y.2)

  pub each : (k : ℕ) (P : ℕ → World → Type 0) → ((c : ℕ) → c < k → (w : World) → Reach b w → P c w → Leads w (P (suc c))) → (w : World) → Reach b w → P zero w → Leads w (P k)
  each zero P f w r h = (w, here, h)
  each (suc k) P f w r h = next (P k) (P (suc k)) w r (each k P (λ c lt. f c (omega arith)) w r h) (λ v s q. f k (omega arith) v s q)

  pub worker_does : (Q : World → Type 0) (w : World) (i : ℕ) (c : Call) (e : Effect Worker Record) → i < b.workers → Heard w i c → worker_effect b w i c ≡ e → Q (worker_world w i e) → Leads w Q
  worker_does Q w i c e lt h is q = (worker_did b w i c, on here (worker w i c lt h), subst (λ (k : Effect Worker Record). Q (worker_world w i k)) (sym is) q)

  pub foreman_does : (Q : World → Type 0) (w : World) (c : Call) (e : Effect Foreman Note) → Heard w foreman_line c → foreman_effect b w c ≡ e → Q (foreman_world w e) → Leads w Q
  foreman_does Q w c e h is q = (foreman_did b w c, on here (foreman w c h), subst (λ (k : Effect Foreman Note). Q (foreman_world w k)) (sym is) q)
