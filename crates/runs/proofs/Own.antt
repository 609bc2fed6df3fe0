-- What a worker's places come to depends on what it has of them; and batches from all, put together, are just its letters.
-- Assumes nothing.
use Rattle.std.proofs.Common.{◌≡◌, ℕ, zero, suc, ◌+◌, ◌<◌, ◌≤◌, Bool, true, false, cond, ◌&&◌, ◌||◌, eqb, ltb, ◌⊎◌, List, [], ◌∷◌, ◌++◌, map, filter, Option, sym, refl, ap, ◌∙◌, ⊎_elim, append_assoc, append-nil, zero-add, arith}
use Rattle.std.specs.List.{range_with_len, AllByRecursion}
use Rattle.std.proofs.lemmas.List.Elements.{filter-append}
use Rattle.std.proofs.ByRecursion.{All-weaker, kept_by_passes}
use Rattle.std.proofs.lemmas.List.{map-append}
use Rattle.std.proofs.lemmas.Simd.{map-map}
use Rattle.std.proofs.lemmas.Bool.{eqb-true, eq-eqb, ne_eqb, lt-ltb, le-ltb, ltb-true, and_parts, and_from, cases_eq, cases_order, true≢false}
use Rattle.meaning.specs.Meaning.{Letter, Turn, World, none, letters_for, turn, turn_at, sent_below, rounds, all_rest, is_over}
use Rattle.meaning.specs.Laws.{Rising}
use Rattle.meaning.proofs.Senders.{all_pass, none_pass, from_there, below_sends, rising_below, only_to_there}
use Rattle.crew.specs.Job.{Job, Proper, meant, places_of, letters_to, letters_by, share_of, all_below}
use Rattle.crew.specs.Worker.{turns_of, sent_in, view_of_turns, worked_of, letters_in, merge, merged_below, all_true}
use Rattle.runs.specs.Promise.{work_meant, silent_meant}
use Rattle.runs.proofs.Lists.{all_always, below_all, kept_same, kept_kept, kept_within, counting_more, merge_kept, none_merge}

-- LETTERS OF THE MEANING

-- they come by rising senders, from places that are there
pub post_rises : (b : Job) (r : ℕ) → Rising (meant b r).post
unfolding rounds
post_rises b zero = tt
post_rises b (suc r) = rising_below b.places b.program r (meant b r) b.places

pub post_from_there : (b : Job) (r : ℕ) → AllByRecursion (λ (l : Letter). l.from < b.places) (meant b r).post
unfolding rounds
post_from_there b zero = tt
post_from_there b (suc r) = below_sends b.places b.program r (meant b r) b.places

-- WORK

-- for a place of worker i there are just the letters that are to it, among those that worker i has
pub own_letters : (b : Job) (i v : ℕ) → eqb i (b.owner v) ≡ true → (ls : List Letter) → letters_for v (letters_to b i ls) ≡ letters_for v ls
own_letters b i v mine =
    kept_within (λ (l : Letter). eqb v l.to) (λ (l : Letter). eqb i (b.owner l.to))
    (λ l e. ap (λ k. eqb i (b.owner k)) (sym (eqb-true v l.to e)) ∙ mine)

sent_append : (ts us : List Turn) → sent_in (ts ++ us) ≡ sent_in ts ++ sent_in us
sent_append [] us = refl
sent_append (t ∷ ts) us = ap (λ (l : List Letter). t.sent ++ l) (sent_append ts us) ∙ sym (append_assoc t.sent (sent_in ts) (sent_in us))

module _ (b : Job) (i r : ℕ) (w : World) where
  abbrev turn_of : ℕ → Turn
  turn_of = turn_at b.places b.program r w

  abbrev mine : ℕ → Bool
  mine v = eqb i (b.owner v)

  own_turns : (ps : List ℕ) → AllByRecursion (λ v. mine v ≡ true) ps → turns_of b r (letters_to b i w.post) ps (map w.state ps) (map w.rests ps) ≡ map turn_of ps
  own_turns [] h = refl
  own_turns (v ∷ ps) (h, hs) =
      λ k. turn b.places b.program (record { round = r; place = v; state = w.state v; letters = own_letters b i v h w.post k }) (w.rests v) ∷ own_turns ps hs k

  -- what one place sends is from it, so it is of worker i just if the place is
  sent_one : (c : ℕ) → sent_in (map turn_of (cond (mine c) (c ∷ []) [])) ≡ letters_by b i (turn_of c).sent
  sent_one c = go (mine c) refl
    where
      sent : List Letter
      sent = (turn_of c).sent

      as_owner : (t : Bool) → mine c ≡ t → AllByRecursion (λ (l : Letter). mine l.from ≡ t) sent
      as_owner t e = All-weaker (λ (l : Letter). l.from ≡ c) (λ (l : Letter). mine l.from ≡ t) (λ l f. ap mine f ∙ e) sent (from_there b.places b.program r w c)

      go : (t : Bool) → mine c ≡ t → sent_in (map turn_of (cond t (c ∷ []) [])) ≡ letters_by b i sent
      go true e = append-nil sent ∙ sym (all_pass (λ (l : Letter). mine l.from) sent (as_owner true e))
      go false e = sym (none_pass (λ (l : Letter). mine l.from) sent (as_owner false e))

  -- what the places of worker i send is what of all letters is from them
  own_sent : (c : ℕ) → sent_in (map turn_of (filter mine (range_with_len 0 c))) ≡ letters_by b i (sent_below b.places b.program r w c)
  own_sent zero = refl
  own_sent (suc c) =
      ap (λ l. sent_in (map turn_of (filter mine l))) (counting_more 0 c ∙ ap (λ k. range_with_len 0 c ++ k ∷ []) (zero-add c))
      ∙ ap (λ l. sent_in (map turn_of l)) (filter-append mine (range_with_len 0 c) (c ∷ []))
      ∙ ap sent_in (map-append turn_of (filter mine (range_with_len 0 c)) (filter mine (c ∷ [])))
      ∙ sent_append (map turn_of (filter mine (range_with_len 0 c))) (map turn_of (filter mine (c ∷ [])))
      ∙ (λ k. own_sent c k ++ sent_one c k)
      ∙ sym (filter-append (λ (l : Letter). mine l.from) (sent_below b.places b.program r w c) (turn_of c).sent)

-- a round of what worker i has of the meaning is its part of the meaning's next
pub work_true : (b : Job) (i r : ℕ) → worked_of b i r (share_of b i (meant b r)) ≡ work_meant b i r
unfolding rounds
work_true b i r =
    ap view_of_turns (own_turns b i r (meant b r) (places_of b i) (kept_by_passes (λ v. eqb i (b.owner v)) (range_with_len 0 b.places)))
    ∙ (λ k. record {
      states = map-map (λ (t : Turn). t.state) (turn_at b.places b.program r (meant b r)) (places_of b i) k;
      rests = map-map (λ (t : Turn). t.rests) (turn_at b.places b.program r (meant b r)) (places_of b i) k;
      post = own_sent b i r (meant b r) b.places k;
    })

-- BATCHES

-- the batch of round r from worker j to worker i
abbrev pub batch_meant : Job → (i j r : ℕ) → List Letter
batch_meant b i j r = letters_to b i (letters_by b j (meant b (suc r)).post)

and_swap : (x y : Bool) → (x && y) ≡ (y && x)
and_swap true true = refl
and_swap true false = refl
and_swap false true = refl
and_swap false false = refl

-- below c or at it is below the next
either_below : (o c : ℕ) (t : Bool) → ((ltb o c && t) || (eqb c o && t)) ≡ (ltb o (suc c) && t)
either_below o c t = ⊎_elim same other (cases_order o c)
  where
    each : (x y z : Bool) → ltb o c ≡ x → eqb c o ≡ y → ltb o (suc c) ≡ z → ((x && t) || (y && t)) ≡ (z && t) → ((ltb o c && t) || (eqb c o && t)) ≡ (ltb o (suc c) && t)
    each x y z e f g h = (λ k. (e k && t) || (f k && t)) ∙ h ∙ ap (λ a. a && t) (sym g)

    or_none : (a : Bool) → (a || false) ≡ a
    or_none true = refl
    or_none false = refl

    same : o ≡ c → ((ltb o c && t) || (eqb c o && t)) ≡ (ltb o (suc c) && t)
    same e = each false true true (le-ltb o c (omega arith)) (eq-eqb c o (sym e)) (lt-ltb o (suc c) (omega arith)) refl

    other : ((o < c) ⊎ (c < o)) → ((ltb o c && t) || (eqb c o && t)) ≡ (ltb o (suc c) && t)
    other =
        ⊎_elim
        (λ l. each true false true (lt-ltb o c l) (ne_eqb c o (λ e. omega arith)) (lt-ltb o (suc c) (omega arith)) (or_none t))
        (λ l. each false false false (le-ltb o c (omega arith)) (ne_eqb c o (λ e. omega arith)) (le-ltb o (suc c) (omega arith)) refl)

module _ (b : Job) (i r : ℕ) (got : ℕ → Option (List Letter)) where
  abbrev post : List Letter
  post = (meant b (suc r)).post

  abbrev to_i : Letter → Bool
  to_i l = eqb i (b.owner l.to)

  -- to worker i, from a worker below c; and from worker c
  abbrev from_below : (c : ℕ) → Letter → Bool
  from_below c l = ltb (b.owner l.from) c && to_i l

  abbrev from_one : (c : ℕ) → Letter → Bool
  from_one c l = eqb c (b.owner l.from) && to_i l

  apart : (c : ℕ) (x y : Letter) → from_below c x ≡ true → from_one c y ≡ true → x.from ≡ y.from → ⊥
  apart c x y e f s =
      let low : b.owner x.from < c = ltb-true (b.owner x.from) c (and_parts (ltb (b.owner x.from) c) (to_i x) e).0 in
      let at : c ≡ b.owner y.from = eqb-true c (b.owner y.from) (and_parts (eqb c (b.owner y.from)) (to_i y) f).0 in
      let is : b.owner x.from ≡ b.owner y.from = ap b.owner s in
      omega arith

  -- with the true batch of each worker below c, what is put together is what those below c sent to worker i
  merged_below_lem : (c : ℕ) → ((j : ℕ) → j < c → letters_in (got j) ≡ batch_meant b i j r) → merged_below got c ≡ filter (from_below c) post
  merged_below_lem zero h = sym (none_pass (from_below 0) post (all_always (λ l. from_below 0 l ≡ false) (λ l. ap (λ t. t && to_i l) (le-ltb (b.owner l.from) 0 (omega arith))) post))
  merged_below_lem (suc c) h =
      (λ k. merge (merged_below_lem c (λ j l. h j (omega arith)) k) ((h c (omega arith) ∙ kept_kept to_i (λ (l : Letter). eqb c (b.owner l.from)) post) k))
      ∙ merge_kept (from_below c) (from_one c) (apart c) post (post_rises b (suc r))
      ∙ kept_same (λ l. from_below c l || from_one c l) (from_below (suc c)) post
      (all_always (λ l. (from_below c l || from_one c l) ≡ from_below (suc c) l) (λ l. either_below (b.owner l.from) c (to_i l)) post)

  -- with one from each, it is all letters to worker i
  pub merged_true : Proper b → ((j : ℕ) → j < b.workers → letters_in (got j) ≡ batch_meant b i j r) → merged_below got b.workers ≡ letters_to b i post
  merged_true proper h =
      merged_below_lem b.workers h
      ∙ kept_same (from_below b.workers) to_i post
      (All-weaker (λ (l : Letter). l.from < b.places) (λ l. from_below b.workers l ≡ to_i l) (λ l there. ap (λ t. t && to_i l) (lt-ltb (b.owner l.from) b.workers (proper.owned l.from there)))
      post (post_from_there b (suc r)))

  none_below : (c : ℕ) → none (merged_below got c) ≡ all_below c (λ j. none (letters_in (got j)))
  none_below zero = refl
  none_below (suc c) = none_merge (merged_below got c) (letters_in (got c)) ∙ and_swap (none (merged_below got c)) (none (letters_in (got c))) ∙ ap (λ t. none (letters_in (got c)) && t) (none_below c)

  -- no batch has a letter just if no letter is under way to worker i
  pub none_true : Proper b → ((j : ℕ) → j < b.workers → letters_in (got j) ≡ batch_meant b i j r) → all_below b.workers (λ j. none (letters_in (got j))) ≡ none (letters_to b i post)
  none_true proper h = sym (none_below b.workers) ∙ ap none (merged_true proper h)

-- OVER

-- of places that are listed, all of which rest, one rests
listed_rests : (p f : ℕ → Bool) (a n : ℕ) → all_true (map f (filter p (range_with_len a n))) ≡ true → (v : ℕ) → a ≤ v → v < a + n → p v ≡ true → f v ≡ true
listed_rests p f a zero h v le lt mine = absurd (omega arith)
listed_rests p f a (suc n) h v le lt mine = go (λ rest after. listed_rests p f (a + 1) n rest v after (omega arith) mine) (cases_eq v a)
  where
    others : (t : Bool) → all_true (map f (cond t (a ∷ filter p (range_with_len (a + 1) n)) (filter p (range_with_len (a + 1) n)))) ≡ true → all_true (map f (filter p (range_with_len (a + 1) n))) ≡ true
    others true e = (and_parts (f a) (all_true (map f (filter p (range_with_len (a + 1) n)))) e).1
    others false e = e

    here : (t : Bool) → t ≡ true → all_true (map f (cond t (a ∷ filter p (range_with_len (a + 1) n)) (filter p (range_with_len (a + 1) n)))) ≡ true → f a ≡ true
    here true s e = (and_parts (f a) (all_true (map f (filter p (range_with_len (a + 1) n)))) e).0
    here false s e = absurd (true≢false (sym s))

    go : (all_true (map f (filter p (range_with_len (a + 1) n))) ≡ true → a + 1 ≤ v → f v ≡ true) → ((v ≡ a) ⊎ (v ≡ a → ⊥)) → f v ≡ true
    go ih = ⊎_elim (λ is. ap f is ∙ here (p a) (ap p (sym is) ∙ mine) h) (λ ne. ih (others (p a) h) (omega arith))

pub rest_below : (n : ℕ) (f : ℕ → Bool) → all_rest n f ≡ all_below n f
rest_below zero f = refl
rest_below (suc n) f = ap (λ (t : Bool). f n && t) (rest_below n f)

none_of : (b : Job) → Proper b → (ls : List Letter) → AllByRecursion (λ (l : Letter). l.to < b.places) ls → ((i : ℕ) → i < b.workers → none (letters_to b i ls) ≡ true) → none ls ≡ true
none_of b proper [] h k = refl
none_of b proper (x ∷ xs) (h, hs) k =
    ap (λ t. none (cond t (x ∷ letters_to b (b.owner x.to) xs) (letters_to b (b.owner x.to) xs))) (sym (eq-eqb (b.owner x.to) (b.owner x.to) refl))
    ∙ k (b.owner x.to) (proper.owned x.to h)

-- what is over for each worker is over
pub over_of_silent : (b : Job) → Proper b → (r : ℕ) → ((i : ℕ) → i < b.workers → silent_meant b i r ≡ true) → is_over b.places (meant b r) ≡ true
over_of_silent b proper r h =
    and_from (none (meant b r).post) (all_rest b.places (meant b r).rests)
    (none_of b proper (meant b r).post (only_to_there b.places b.program r) (λ i l. (parts i l).1))
    (rest_below b.places (meant b r).rests
    ∙ below_all b.places (meant b r).rests
    (λ v l. listed_rests (λ u. eqb (b.owner v) (b.owner u)) (meant b r).rests 0 b.places (parts (b.owner v) (proper.owned v l)).0 v (omega arith) (omega arith) (eq-eqb (b.owner v) (b.owner v) refl)))
  where
    parts : (i : ℕ) → i < b.workers → (all_true (share_of b i (meant b r)).rests ≡ true) × (none (share_of b i (meant b r)).post ≡ true)
    parts i l = and_parts (all_true (share_of b i (meant b r)).rests) (none (share_of b i (meant b r)).post) (h i l)
