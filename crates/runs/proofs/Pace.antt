-- The pace of a run: ghosts say between which rounds an attempt is and whether it is over, and its workers keep to them.
-- Assumes nothing.
use Rattle.std.proofs.Common.{◌≡◌, ℕ, zero, suc, ◌+◌, ◌<◌, ◌≤◌, Bool, true, false, cond, ◌||◌, eqb, ◌⊎◌, List, [], ◌∷◌, ◌++◌, length, take, Some, None, Option, sym, refl, ap, ◌∙◌, subst, inl, inr, append-nil, arith}
use Rattle.std.specs.List.{AllByRecursion}
use Rattle.std.proofs.ByRecursion.{All-append, All-weaker, All-take}
use Rattle.std.proofs.lemmas.Bool.{or_cases, or_left, or_right}
use Rattle.meaning.specs.Caps.{round_cap}
use Rattle.crew.specs.Job.{Job}
use Rattle.crew.specs.Journals.{Record, Note, last_began, last_noted}
use Rattle.crew.specs.Messages.{Message, Batch, Ready, Go, Anew, PutBy, Hello, Parcel}
use Rattle.crew.specs.Worker.{Worker, is_ready, is_due}
use Rattle.crew.specs.Foreman.{Foreman}
use Rattle.runs.specs.World.{World, Machine, Effect, Call, after, said_by, put, worker_effect, worker_did, worker_cut, foreman_effect, foreman_did, foreman_cut}
use Rattle.runs.proofs.Lists.{nobody, put_all, put_same}
use Rattle.runs.proofs.Journals.{level, has, cut_either}

-- THE INVARIANT: each worker of an attempt lies between the round that it began from and the round that it came to, and has all
-- checkpoints that fell due on the way.

-- the rounds that a worker is done with: its own too, once it is ready for the next
abbrev pub done_by : Job → Worker → ℕ
done_by b x = x.round + cond (is_ready b x) 1 0

-- every checkpoint that is due after round s, up to r, is there
abbrev pub Stored : (s r : ℕ) → List Record → Type 0
Stored s r js = (t : ℕ) → is_due t ≡ true → s < t → t ≤ r → has t js ≡ true

-- a worker can begin from round r
abbrev pub starts_at : ℕ → List Record → Bool
starts_at r js = eqb r 0 || has r js

-- attempt, noted: as the foreman's journal has them
-- from, top: the round that each attempt began from, and the round that it came to
-- over: whether the foreman said that it is over there
pub record Ghost : Type 0 where
  pub attempt : ℕ
  pub noted : ℕ
  pub from : ℕ → ℕ
  pub top : ℕ → ℕ
  pub over : ℕ → Bool

-- a worker was ready in round r of attempt k, which it joined: while it is in that attempt, it is done with that round
pub record Reached (b : Job) (k r : ℕ) (x : Machine Worker Record) : Type 0 where
  pub joined : k < level x.journal
  pub done : (y : Worker) → x.up ≡ Some y → y.joined ≡ true → y.attempt ≡ k → r < done_by b y

-- a worker that is up and in its attempt
pub record In (b : Job) (g : Ghost) (js : List Record) (y : Worker) : Type 0 where
  pub low : g.from y.attempt ≤ y.round
  pub high : y.round ≤ g.top y.attempt
  pub done : g.top y.attempt ≤ done_by b y
  pub stored : Stored (g.from y.attempt) y.round js
  pub latest : (r : ℕ) → y.latest ≡ Some r → (g.from y.attempt < r) × (r ≤ y.round)
  pub over : y.round ≡ g.top y.attempt → y.over ≡ g.over y.attempt

-- a worker: an attempt that it didn't join has come to no round but its first and isn't over, and it can begin from wherever
-- one began
pub record Own (b : Job) (g : Ghost) (x : Machine Worker Record) : Type 0 where
  pub low : level x.journal ≤ g.attempt + 1
  pub behind : (k : ℕ) → level x.journal ≤ k → (g.top k ≡ g.from k) × (g.over k ≡ false)
  pub starts : (k : ℕ) → starts_at (g.from k) x.journal ≡ true
  pub noted : starts_at g.noted x.journal ≡ true
  pub attempt : (y : Worker) → x.up ≡ Some y → level x.journal ≡ suc y.attempt
  pub here : (y : Worker) → x.up ≡ Some y → y.joined ≡ true → In b g x.journal y

-- nobody is in an attempt that hasn't begun
pub before : (b : Job) (g : Ghost) (x : Machine Worker Record) → Own b g x → (y : Worker) → x.up ≡ Some y → y.attempt ≤ g.attempt
before b g x c y u = let e : level x.journal ≡ suc y.attempt = c.attempt y u in omega (arith, c.low)

-- what was said, as it bears on the worker that said it
abbrev pub Told : Job → Ghost → Machine Worker Record → Message → Type 0
Told b g x (Batch k r f t ls) = Unit {0}
Told b g x (Ready k r e) = Reached b k r x
Told b g x (Go k r nr e) = (k ≤ g.attempt) × (r ≤ g.top k) × (r ≡ g.top k → e ≡ g.over k)
Told b g x (Anew k r) = (k ≤ g.attempt) × (r ≡ g.from k)
Told b g x (PutBy k r) = (k ≤ g.attempt) × (g.from k < r) × Stored (g.from k) r x.journal
Told b g x (Hello k) = Unit {0}

abbrev pub Sound : Job → Ghost → (ℕ → Machine Worker Record) → Parcel → Type 0
Sound b g ws p = Told b g (ws p.from) p.message

-- said by worker i, which is x
abbrev pub SaidBy : Job → Ghost → (i : ℕ) → Machine Worker Record → Parcel → Type 0
SaidBy b g i x p = (p.from ≡ i) × Told b g x p.message

-- the foreman, while it is up
pub record Leads (g : Ghost) (f : Foreman) : Type 0 where
  pub attempt : f.attempt ≡ g.attempt
  pub start : f.start ≡ g.from g.attempt
  pub at : f.at ≡ g.top g.attempt
  pub over : f.over ≡ g.over g.attempt
  pub noted : f.noted ≡ g.noted
  pub low : f.at ≤ round_cap
  pub rising : f.start ≤ f.noted
  pub due : (j : ℕ) → is_due (f.kept j) ≡ true

-- what it knows of worker j
pub record Hears (b : Job) (g : Ghost) (f : Foreman) (j : ℕ) (x : Machine Worker Record) : Type 0 where
  pub ready : f.ready j ≡ true → Reached b g.attempt f.at x
  pub kept : Stored (g.from g.attempt) (f.kept j) x.journal

-- before the foreman was ever up, nobody has come further than round 0; and while it is up, it has a journal
abbrev pub Fresh : Ghost → Option Foreman → List Note → Type 0
Fresh g None [] = (g.top 0 ≡ 0) × (g.over 0 ≡ false)
Fresh g (Some f) [] = ⊥
Fresh g o (x ∷ xs) = Unit {0}

pub record Paced (b : Job) (g : Ghost) (w : World) : Type 0 where
  pub began : last_began 0 w.foreman.journal ≡ g.attempt
  pub lastly : last_noted 0 w.foreman.journal ≡ g.noted
  pub first : g.from 0 ≡ 0
  pub fresh : Fresh g w.foreman.up w.foreman.journal
  pub due : is_due g.noted ≡ true
  pub low : g.noted < round_cap
  pub workers : (i : ℕ) → i < b.workers → Own b g (w.worker i)
  pub said : AllByRecursion (Sound b g w.worker) w.said
  pub leads : (f : Foreman) → w.foreman.up ≡ Some f → Leads g f
  pub hears : (f : Foreman) → w.foreman.up ≡ Some f → (j : ℕ) → j < b.workers → Hears b g f j (w.worker j)

abbrev pub Pace : Job → World → Type 0
Pace b w = (g : Ghost) × Paced b g w

-- THE GHOSTS MOVE

-- Attempts that had begun by g are as they were, but that one may have come to a further round: what was at most the round that
-- it had come to is at most that, and whether it is over there is as it was for who is there still.
pub record Later (g h : Ghost) : Type 0 where
  pub attempt : g.attempt ≤ h.attempt
  pub from : (k : ℕ) → k ≤ g.attempt → h.from k ≡ g.from k
  pub top : (k : ℕ) → k ≤ g.attempt → (r : ℕ) (e : Bool) → r ≤ g.top k → (r ≡ g.top k → e ≡ g.over k) → (r ≤ h.top k) × (r ≡ h.top k → e ≡ h.over k)

module _ (b : Job) (g h : Ghost) (l : Later g h) where
  told_later : (x : Machine Worker Record) (m : Message) → Told b g x m → Told b h x m
  told_later x (Batch k r f t ls) c = tt
  told_later x (Ready k r e) c = c
  told_later x (Go k r nr e) c = let u = l.top k c.0 r e c.1 c.2 in (omega (arith, c.0, l.attempt), u.0, u.1)
  told_later x (Anew k r) c = (omega (arith, c.0, l.attempt), c.1 ∙ sym (l.from k c.0))
  told_later x (PutBy k r) c = let z : h.from k ≡ g.from k = l.from k c.0 in (omega (arith, c.0, l.attempt), omega (arith, c.1), λ t d p q. c.2 t d (omega arith) q)
  told_later x (Hello k) c = tt

  pub said_later : (ws : ℕ → Machine Worker Record) (s : List Parcel) → AllByRecursion (Sound b g ws) s → AllByRecursion (Sound b h ws) s
  said_later ws = All-weaker (Sound b g ws) (Sound b h ws) (λ p. told_later (ws p.from) p.message)

  -- who is in an attempt, once it is done with all rounds up to the one that the attempt has come to now
  pub in_later : (js : List Record) (y : Worker) → y.attempt ≤ g.attempt → h.top y.attempt ≤ done_by b y → In b g js y → In b h js y
  in_later js y le done n =
      let z : h.from y.attempt ≡ g.from y.attempt = l.from y.attempt le in
      let u = l.top y.attempt le y.round y.over n.high n.over in
      record {
        low = omega (arith, n.low);
        high = u.0;
        done = done;
        stored = λ t d p q. n.stored t d (omega arith) q;
        latest = λ t e. (omega (arith, (n.latest t e).0), (n.latest t e).1);
        over = u.1;
      }

-- A WORKER MOVES

-- v in its attempt: it joins one that machine x had not joined, or stays in that of x and is done with no fewer rounds
abbrev pub Follows : Job → Machine Worker Record → Worker → Type 0
Follows b x v = (level x.journal ≤ v.attempt) ⊎ ((u : Worker) × (x.up ≡ Some u) × (u.joined ≡ true) × (u.attempt ≡ v.attempt) × (done_by b u ≤ done_by b v))

-- from x to y: whoever is in an attempt then follows, and the journal keeps all
pub record Grows (b : Job) (x y : Machine Worker Record) : Type 0 where
  pub rises : level x.journal ≤ level y.journal
  pub keeps : (t : ℕ) → has t x.journal ≡ true → has t y.journal ≡ true
  pub same : (v : Worker) → y.up ≡ Some v → v.joined ≡ true → Follows b x v

-- a machine with its power gone
abbrev pub down : {S R : Type 0} → Machine S R → Machine S R
down x = record { up = None; journal = x.journal }

module _ (b : Job) where
  pub grows_not : (x : Machine Worker Record) → Grows b x x
  grows_not x = record { rises = omega arith; keeps = λ t e. e; same = λ v u j. inr (v, u, j, refl, omega arith) }

  pub grows_down : (x : Machine Worker Record) → Grows b x (down x)
  grows_down x = record { rises = omega arith; keeps = λ t e. e; same = λ v u j. nobody u }

  pub down_grows : (x y : Machine Worker Record) → Grows b x y → Grows b x (down y)
  down_grows x y h = record { rises = h.rises; keeps = h.keeps; same = λ v u j. nobody u }

  reached_grows : (x y : Machine Worker Record) → Grows b x y → (k r : ℕ) → Reached b k r x → Reached b k r y
  reached_grows x y h k r c =
      record {
        joined = (let p : k < level x.journal = c.joined in let q : level x.journal ≤ level y.journal = h.rises in omega arith);
        done = λ v u j a. go v a (h.same v u j);
      }
    where
      go : (v : Worker) → v.attempt ≡ k → Follows b x v → r < done_by b v
      go v a (inl l) = let p : k < level x.journal = c.joined in absurd (omega arith)
      go v a (inr (u, e, j, s, l)) = let p : r < done_by b u = c.done u e j (s ∙ a) in omega arith

  stored_grows : (x y : Machine Worker Record) → Grows b x y → (s r : ℕ) → Stored s r x.journal → Stored s r y.journal
  stored_grows x y h s r c t d l m = h.keeps t (c t d l m)

  pub told_grows : (g : Ghost) (x y : Machine Worker Record) → Grows b x y → (m : Message) → Told b g x m → Told b g y m
  told_grows g x y h (Batch k r f t ls) c = tt
  told_grows g x y h (Ready k r e) c = reached_grows x y h k r c
  told_grows g x y h (Go k r nr e) c = c
  told_grows g x y h (Anew k r) c = c
  told_grows g x y h (PutBy k r) c = (c.0, c.1, stored_grows x y h (g.from k) r c.2)
  told_grows g x y h (Hello k) c = tt

  hears_grows : (g : Ghost) (f : Foreman) (j : ℕ) (x y : Machine Worker Record) → Grows b x y → Hears b g f j x → Hears b g f j y
  hears_grows g f j x y h c = record { ready = λ e. reached_grows x y h g.attempt f.at (c.ready e); kept = stored_grows x y h (g.from g.attempt) (f.kept j) c.kept }

  pub starts_grows : (x y : Machine Worker Record) → Grows b x y → (r : ℕ) → starts_at r x.journal ≡ true → starts_at r y.journal ≡ true
  starts_grows x y h r e = go (or_cases (eqb r 0) (has r x.journal) e)
    where
      go : (eqb r 0 ≡ true) ⊎ (has r x.journal ≡ true) → starts_at r y.journal ≡ true
      go (inl z) = or_left (eqb r 0) (has r y.journal) z
      go (inr z) = or_right (eqb r 0) (has r y.journal) (h.keeps r z)

  -- What a call of worker i comes to: all that the invariant needs of it.
  pub record Moves (g : Ghost) (i : ℕ) (x : Machine Worker Record) (e : Effect Worker Record) : Type 0 where
    pub grows : Grows b x (after x e)
    pub own : Own b g (after x e)
    pub says : AllByRecursion (SaidBy b g i (after x e)) e.says
    pub few : length e.appends ≤ 1

  moved : (g : Ghost) (w : World) → Paced b g w → (i : ℕ) (y : Machine Worker Record) (s : List Parcel) → Grows b (w.worker i) y → Own b g y →
      AllByRecursion (SaidBy b g i y) s → Paced b g (record { worker = put i y w.worker; foreman = w.foreman; said = s ++ w.said })
  moved g w h i y s grows own says =
      record {
        began = h.began;
        lastly = h.lastly;
        first = h.first;
        fresh = h.fresh;
        due = h.due;
        low = h.low;
        workers = put_all (λ j x. j < b.workers → Own b g x) i y w.worker (λ l. own) h.workers;
        said = All-append (Sound b g (put i y w.worker)) s w.said
            (All-weaker (SaidBy b g i y) (Sound b g (put i y w.worker))
            (λ p c. subst (λ (x : Machine Worker Record). Told b g x p.message) (sym (ap (put i y w.worker) c.0 ∙ put_same i y w.worker)) c.1) s says)
            (All-weaker (Sound b g w.worker) (Sound b g (put i y w.worker))
            (λ p c. told_grows g (w.worker p.from) (put i y w.worker p.from) (each p.from) p.message c) w.said h.said);
        leads = h.leads;
        hears = λ f u j l. hears_grows g f j (w.worker j) (put i y w.worker j) (each j) (h.hears f u j l);
      }
    where
      each : (j : ℕ) → Grows b (w.worker j) (put i y w.worker j)
      each = put_all (λ j x. Grows b (w.worker j) x) i y w.worker grows (λ j. grows_not (w.worker j))

  own_down : (g : Ghost) (x : Machine Worker Record) → Own b g x → Own b g (down x)
  own_down g x h = record { low = h.low; behind = h.behind; starts = h.starts; noted = h.noted; attempt = λ y u. nobody u; here = λ y u j. nobody u }

  pub worker_did_lem : (g : Ghost) (w : World) → Paced b g w → (i : ℕ) (c : Call) → Moves g i (w.worker i) (worker_effect b w i c) → Paced b g (worker_did b w i c)
  worker_did_lem g w h i c m = moved g w h i (after (w.worker i) (worker_effect b w i c)) (worker_effect b w i c).says m.grows m.own m.says

  pub worker_cut_lem : (g : Ghost) (w : World) → Paced b g w → (i : ℕ) → i < b.workers → (c : Call) (k d : ℕ) → Moves g i (w.worker i) (worker_effect b w i c) → Paced b g (worker_cut b w i c k d)
  worker_cut_lem g w h i lt c k d m = go (take k e.appends) (said_by e k d) (cut_either e k d m.few)
    where
      x : Machine Worker Record
      x = w.worker i

      e : Effect Worker Record
      e = worker_effect b w i c

      World' : List Record → List Parcel → World
      World' js s = record { worker = put i (record { up = None; journal = x.journal ++ js }) w.worker; foreman = w.foreman; said = s ++ w.said }

      go : (js : List Record) (s : List Parcel) → ((js ≡ []) × (s ≡ [])) ⊎ ((js ≡ e.appends) × (s ≡ take d e.says)) → Paced b g (World' js s)
      go js s (inl (p, q)) =
          subst (λ (u : World). Paced b g u) (λ t. record { worker = put i (record { up = None; journal = sym (ap (λ (ks : List Record). x.journal ++ ks) p ∙ append-nil x.journal) t }) w.worker; foreman = w.foreman; said = sym q t ++ w.said })
          (moved g w h i (down x) [] (grows_down x) (own_down g x (h.workers i lt)) tt)
      go js s (inr (p, q)) =
          subst (λ (u : World). Paced b g u) (λ t. World' (sym p t) (sym q t))
          (moved g w h i (down (after x e)) (take d e.says) (down_grows x (after x e) m.grows) (own_down g (after x e) m.own)
          (All-take (SaidBy b g i (down (after x e))) d e.says
          (All-weaker (SaidBy b g i (after x e)) (SaidBy b g i (down (after x e)))
          (λ p c. (c.0, told_grows g (after x e) (down (after x e)) (grows_down (after x e)) p.message c.1)) e.says m.says)))

  -- THE FOREMAN IS CUT SHORT

  fresh_down : (g : Ghost) (o : Option Foreman) (js : List Note) → Fresh g o js → Fresh g None js
  fresh_down g None [] h = h
  fresh_down g (Some f) [] h = absurd h
  fresh_down g o (x ∷ js) h = tt

  foreman_down : (g : Ghost) (w : World) (s t : List Parcel) → Paced b g (record { worker = w.worker; foreman = w.foreman; said = s ++ t }) → (d : ℕ) →
      Paced b g (record { worker = w.worker; foreman = down w.foreman; said = take d s ++ t })
  foreman_down g w s t h d =
      record {
        began = h.began;
        lastly = h.lastly;
        first = h.first;
        fresh = fresh_down g w.foreman.up w.foreman.journal h.fresh;
        due = h.due;
        low = h.low;
        workers = h.workers;
        said = some s h.said d;
        leads = λ f u. nobody u;
        hears = λ f u. nobody u;
      }
    where
      some : (s : List Parcel) → AllByRecursion (Sound b g w.worker) (s ++ t) → (d : ℕ) → AllByRecursion (Sound b g w.worker) (take d s ++ t)
      some [] c zero = c
      some [] c (suc d) = c
      some (p ∷ s) c zero = some s c.1 zero
      some (p ∷ s) c (suc d) = (c.0, some s c.1 d)

  pub foreman_cut_lem : (w : World) (c : Call) (k d : ℕ) → Pace b w → Pace b (foreman_did b w c) → length (foreman_effect b w c).appends ≤ 1 → Pace b (foreman_cut b w c k d)
  foreman_cut_lem w c k d before whole few = go (take k e.appends) (said_by e k d) (cut_either e k d few)
    where
      e : Effect Foreman Note
      e = foreman_effect b w c

      World' : List Note → List Parcel → World
      World' js s = record { worker = w.worker; foreman = record { up = None; journal = w.foreman.journal ++ js }; said = s ++ w.said }

      go : (js : List Note) (s : List Parcel) → ((js ≡ []) × (s ≡ [])) ⊎ ((js ≡ e.appends) × (s ≡ take d e.says)) → Pace b (World' js s)
      go js s (inl (p, q)) = (
        before.0,
        subst (λ (u : World). Paced b before.0 u) (λ t. record { worker = w.worker; foreman = record { up = None; journal = sym (ap (λ (ks : List Note). w.foreman.journal ++ ks) p ∙ append-nil w.foreman.journal) t }; said = sym q t ++ w.said })
            (foreman_down before.0 w [] w.said before.1 0),
      )
      go js s (inr (p, q)) = (
        whole.0,
        subst (λ (u : World). Paced b whole.0 u) (λ t. World' (sym p t) (sym q t))
            (foreman_down whole.0 (foreman_did b w c) e.says w.said whole.1 d),
      )
