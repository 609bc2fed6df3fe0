-- Letters come by rising senders, and exactly those that were sent.
use Rattle.std.proofs.Common.{◌≡◌, ℕ, zero, suc, ◌<◌, ◌≤◌, Bool, true, false, cond, ◌&&◌, eqb, ltb, List, [], ◌∷◌, ◌++◌, filter, sym, refl, ap, ◌∙◌, subst, ⊎_elim, append-nil, arith}
use Rattle.std.specs.List.{AllByRecursion}
use Rattle.std.proofs.lemmas.List.Elements.{filter-append}
use Rattle.std.proofs.ByRecursion.{All-append, All-weaker, all_kept_by}
use Rattle.std.proofs.lemmas.Bool.{eq-eqb, ne_eqb, ltb-true, cases_eq}
use Rattle.meaning.specs.Meaning.{Letter, Sent, Program, World, letters_for, posted, none, input_at, acted, turn_at, sent_below, rounds}
use Rattle.meaning.specs.Laws.{Rising, sent_by, ByRisingSenders, OnlyToThere}

-- what a filter keeps where all pass, or none does
pub all_pass : {X : Type 0} (p : X → Bool) (xs : List X) → AllByRecursion (λ x. p x ≡ true) xs → filter p xs ≡ xs
all_pass p [] h = refl
all_pass p (x ∷ xs) (h, hs) = ap (λ b. cond b (x ∷ filter p xs) (filter p xs)) h ∙ ap (λ l. x ∷ l) (all_pass p xs hs)

pub none_pass : {X : Type 0} (p : X → Bool) (xs : List X) → AllByRecursion (λ x. p x ≡ false) xs → filter p xs ≡ []
none_pass p [] h = refl
none_pass p (x ∷ xs) (h, hs) = ap (λ b. cond b (x ∷ filter p xs) (filter p xs)) h ∙ none_pass p xs hs

-- what a place posts is from it, and to places that are there
posted_is : (n v : ℕ) (ss : List Sent) → AllByRecursion (λ (l : Letter). (l.from ≡ v) × (l.to < n)) (posted n v ss)
posted_is n v [] = tt
posted_is n v (s ∷ ss) = go (ltb s.to n) refl (posted_is n v ss)
  where
    go : (b : Bool) → ltb s.to n ≡ b → AllByRecursion (λ (l : Letter). (l.from ≡ v) × (l.to < n)) (posted n v ss) →
        AllByRecursion (λ (l : Letter). (l.from ≡ v) × (l.to < n)) (cond b (record { from = v; to = s.to; bytes = s.bytes } ∷ posted n v ss) (posted n v ss))
    go true e rest = ((refl, ltb-true s.to n e), rest)
    go false e rest = rest

module _ (n : ℕ) (q : Program) (r : ℕ) (w : World) where
  sent_is : (v : ℕ) → AllByRecursion (λ (l : Letter). (l.from ≡ v) × (l.to < n)) (turn_at n q r w v).sent
  sent_is v = go (w.rests v && none (letters_for v w.post))
    where
      go : (b : Bool) → AllByRecursion (λ (l : Letter). (l.from ≡ v) × (l.to < n)) (cond b (record { state = w.state v; rests = true; sent = [] }) (acted n q (input_at r w v))).sent
      go true = tt
      go false = posted_is n v (q.does (input_at r w v)).sends

  pub from_there : (v : ℕ) → AllByRecursion (λ (l : Letter). l.from ≡ v) (turn_at n q r w v).sent
  from_there v = All-weaker (λ (l : Letter). (l.from ≡ v) × (l.to < n)) (λ (l : Letter). l.from ≡ v) (λ l h. h.0) (turn_at n q r w v).sent (sent_is v)

  pub to_there : (c : ℕ) → AllByRecursion (λ (l : Letter). l.to < n) (sent_below n q r w c)
  to_there zero = tt
  to_there (suc c) = All-append (λ (l : Letter). l.to < n) (sent_below n q r w c) (turn_at n q r w c).sent (to_there c) (All-weaker (λ (l : Letter). (l.from ≡ c) × (l.to < n)) (λ (l : Letter). l.to < n) (λ l h. h.1) (turn_at n q r w c).sent (sent_is c))

  pub below_sends : (c : ℕ) → AllByRecursion (λ (l : Letter). l.from < c) (sent_below n q r w c)
  below_sends zero = tt
  below_sends (suc c) =
      All-append (λ (l : Letter). l.from < suc c) (sent_below n q r w c) (turn_at n q r w c).sent
      (All-weaker (λ (l : Letter). l.from < c) (λ (l : Letter). l.from < suc c) (λ l h. omega arith) (sent_below n q r w c) (below_sends c))
      (All-weaker (λ (l : Letter). l.from ≡ c) (λ (l : Letter). l.from < suc c) (λ l h. omega arith) (turn_at n q r w c).sent (from_there c))

  parts : (u v c : ℕ) → sent_by u (letters_for v (sent_below n q r w (suc c))) ≡ sent_by u (letters_for v (sent_below n q r w c)) ++ sent_by u (letters_for v (turn_at n q r w c).sent)
  parts u v c =
      ap (sent_by u) (filter-append (λ (l : Letter). eqb v l.to) (sent_below n q r w c) (turn_at n q r w c).sent)
      ∙ filter-append (λ (l : Letter). eqb u l.from) (letters_for v (sent_below n q r w c)) (letters_for v (turn_at n q r w c).sent)

  mine : (u v : ℕ) → sent_by u (letters_for v (turn_at n q r w u).sent) ≡ letters_for v (turn_at n q r w u).sent
  mine u v =
      all_pass (λ (l : Letter). eqb u l.from) (letters_for v (turn_at n q r w u).sent)
      (all_kept_by (λ (l : Letter). eqb v l.to) (λ (l : Letter). eqb u l.from ≡ true) (turn_at n q r w u).sent
      (All-weaker (λ (l : Letter). l.from ≡ u) (λ (l : Letter). eqb u l.from ≡ true) (λ l h. eq-eqb u l.from (sym h)) (turn_at n q r w u).sent (from_there u)))

  others : (u v c : ℕ) → (u ≡ c → ⊥) → sent_by u (letters_for v (turn_at n q r w c).sent) ≡ []
  others u v c ne =
      none_pass (λ (l : Letter). eqb u l.from) (letters_for v (turn_at n q r w c).sent)
      (all_kept_by (λ (l : Letter). eqb v l.to) (λ (l : Letter). eqb u l.from ≡ false) (turn_at n q r w c).sent
      (All-weaker (λ (l : Letter). l.from ≡ c) (λ (l : Letter). eqb u l.from ≡ false) (λ l h. ne_eqb u l.from (λ e. ne (e ∙ h))) (turn_at n q r w c).sent (from_there c)))

  no_sender : (u v c : ℕ) → c ≤ u → sent_by u (letters_for v (sent_below n q r w c)) ≡ []
  no_sender u v zero h = refl
  no_sender u v (suc c) h = parts u v c ∙ (λ i. no_sender u v c (let l : c ≤ u = omega arith in l) i ++ others u v c (λ e. omega arith) i)

  -- of one sender: its own letters, in its order
  one_sender : (u v c : ℕ) → u < c → sent_by u (letters_for v (sent_below n q r w c)) ≡ letters_for v (turn_at n q r w u).sent
  one_sender u v zero h = absurd (omega arith)
  one_sender u v (suc c) h =
      parts u v c
      ∙ ⊎_elim
      (λ e. subst (λ k. sent_by u (letters_for v (sent_below n q r w k)) ++ sent_by u (letters_for v (turn_at n q r w k).sent) ≡ letters_for v (turn_at n q r w u).sent) e ((λ i. no_sender u v u (let l : u ≤ u = omega arith in l) i ++ mine u v i)))
      (λ ne. (λ i. one_sender u v c (let l : u < c = omega arith in l) i ++ others u v c ne i) ∙ append-nil (letters_for v (turn_at n q r w u).sent))
      (cases_eq u c)

  -- by rising senders
  rising_one : (v : ℕ) (ls : List Letter) → AllByRecursion (λ (l : Letter). l.from ≡ v) ls → Rising ls
  rising_one v [] h = tt
  rising_one v (l ∷ ls) (h, hs) = (All-weaker (λ (m : Letter). m.from ≡ v) (λ (m : Letter). l.from ≤ m.from) (λ m e. omega (arith, e, h)) ls hs, rising_one v ls hs)

  rising_append : (c : ℕ) (ls ms : List Letter) → AllByRecursion (λ (l : Letter). l.from < c) ls → AllByRecursion (λ (l : Letter). l.from ≡ c) ms → Rising ls → Rising ms → Rising (ls ++ ms)
  rising_append c [] ms hl hm rl rm = rm
  rising_append c (l ∷ ls) ms (h, hl) hm (first, rl) rm = (
    All-append (λ (m : Letter). l.from ≤ m.from) ls ms first (All-weaker (λ (m : Letter). m.from ≡ c) (λ (m : Letter). l.from ≤ m.from) (λ m e. omega (arith, e, h)) ms hm),
    rising_append c ls ms hl hm rl rm,
  )

  pub rising_below : (c : ℕ) → Rising (sent_below n q r w c)
  rising_below zero = tt
  rising_below (suc c) = rising_append c (sent_below n q r w c) (turn_at n q r w c).sent (below_sends c) (from_there c) (rising_below c) (rising_one c (turn_at n q r w c).sent (from_there c))

  pub rising_kept : (p : Letter → Bool) (ls : List Letter) → Rising ls → Rising (filter p ls)
  rising_kept p [] h = tt
  rising_kept p (l ∷ ls) (first, rest) = go (p l) (all_kept_by p (λ (m : Letter). l.from ≤ m.from) ls first) (rising_kept p ls rest)
    where
      go : (b : Bool) → AllByRecursion (λ (m : Letter). l.from ≤ m.from) (filter p ls) → Rising (filter p ls) → Rising (cond b (l ∷ filter p ls) (filter p ls))
      go true f k = (f, k)
      go false f k = k

  pub senders : (v : ℕ) → Rising (letters_for v (sent_below n q r w n)) × ((u : ℕ) → u < n → sent_by u (letters_for v (sent_below n q r w n)) ≡ letters_for v (turn_at n q r w u).sent) × ((u : ℕ) → n ≤ u → sent_by u (letters_for v (sent_below n q r w n)) ≡ [])
  senders v = (rising_kept (λ (l : Letter). eqb v l.to) (sent_below n q r w n) (rising_below n), λ u h. one_sender u v n h, λ u h. no_sender u v n h)

pub by_rising_senders : ByRisingSenders
unfolding rounds
by_rising_senders n q r v = senders n q r (rounds n q r) v

pub only_to_there : OnlyToThere
unfolding rounds
only_to_there n q zero = tt
only_to_there n q (suc r) = to_there n q r (rounds n q r) n
