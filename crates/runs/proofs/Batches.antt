-- The batches of the meaning are in order, so that no worker refuses one; and where the meaning is over, each worker's part is.
-- Assumes nothing.
use Rattle.std.proofs.Common.{◌≡◌, ℕ, zero, suc, ◌+◌, ◌<◌, ◌≤◌, Bool, true, ◌&&◌, eqb, ltb, leb, List, [], ◌∷◌, map, sym, refl, ap, ◌∙◌, arith}
use Rattle.std.specs.List.{range_with_len, AllByRecursion}
use Rattle.std.proofs.ByRecursion.{All-weaker, all_kept_by, kept_by_passes}
use Rattle.std.proofs.lemmas.Bool.{and_parts, and_from, lt-ltb, le-leb, false≢true}
use Rattle.meaning.specs.Meaning.{Letter, none, all_rest, is_over}
use Rattle.meaning.specs.Laws.{Rising}
use Rattle.meaning.proofs.Senders.{rising_kept, only_to_there}
use Rattle.crew.specs.Job.{Job, meant, places_of, letters_to, letters_by, share_of, all_below}
use Rattle.crew.specs.Worker.{all_true, all_letters, rising_from, well_formed, between}
use Rattle.runs.specs.Promise.{silent_meant}
use Rattle.runs.proofs.Lists.{all_both, all_below_lem}
use Rattle.runs.proofs.Own.{post_rises, post_from_there, rest_below}

all_letters_lem : (f : Letter → Bool) (ls : List Letter) → AllByRecursion (λ l. f l ≡ true) ls → all_letters f ls ≡ true
all_letters_lem f [] h = refl
all_letters_lem f (l ∷ ls) h = and_from (f l) (all_letters f ls) h.0 (all_letters_lem f ls h.1)

rising_from_lem : (u : ℕ) (ls : List Letter) → AllByRecursion (λ (l : Letter). u ≤ l.from) ls → Rising ls → rising_from u ls ≡ true
rising_from_lem u [] h k = refl
rising_from_lem u (l ∷ ls) h k = and_from (leb u l.from) (rising_from l.from ls) (le-leb u l.from h.0) (rising_from_lem l.from ls k.0 k.1)

module _ (b : Job) (j i r : ℕ) where
  abbrev batch : List Letter
  batch = letters_to b i (letters_by b j (meant b r).post)

  -- what holds of all letters holds of a batch's
  of_batch : (P : Letter → Type 0) → AllByRecursion P (meant b r).post → AllByRecursion P batch
  of_batch P h = all_kept_by (λ (l : Letter). eqb i (b.owner l.to)) P (letters_by b j (meant b r).post) (all_kept_by (λ (l : Letter). eqb j (b.owner l.from)) P (meant b r).post h)

  batch_rises : Rising batch
  batch_rises =
      rising_kept b.places b.program r (meant b r) (λ (l : Letter). eqb i (b.owner l.to)) (letters_by b j (meant b r).post)
      (rising_kept b.places b.program r (meant b r) (λ (l : Letter). eqb j (b.owner l.from)) (meant b r).post (post_rises b r))

  pub batch_well_formed : well_formed b batch ≡ true
  batch_well_formed =
      and_from (rising_from 0 batch) (all_letters (λ (l : Letter). ltb l.from b.places && ltb l.to b.places) batch)
      (rising_from_lem 0 batch (of_batch (λ (l : Letter). 0 ≤ l.from) (All-weaker (λ (l : Letter). l.from < b.places) (λ (l : Letter). 0 ≤ l.from) (λ l h. omega arith) (meant b r).post (post_from_there b r))) batch_rises)
      (all_letters_lem (λ (l : Letter). ltb l.from b.places && ltb l.to b.places) batch
      (All-weaker (λ (l : Letter). (l.from < b.places) × (l.to < b.places)) (λ (l : Letter). (ltb l.from b.places && ltb l.to b.places) ≡ true)
      (λ l h. and_from (ltb l.from b.places) (ltb l.to b.places) (lt-ltb l.from b.places h.0) (lt-ltb l.to b.places h.1))
      batch
      (all_both (λ (l : Letter). l.from < b.places) (λ (l : Letter). l.to < b.places) batch (of_batch (λ (l : Letter). l.from < b.places) (post_from_there b r)) (of_batch (λ (l : Letter). l.to < b.places) (only_to_there b.places b.program r)))))

  pub batch_between : between b j i batch ≡ true
  batch_between =
      all_letters_lem (λ (l : Letter). eqb j (b.owner l.from) && eqb i (b.owner l.to)) batch
      (All-weaker (λ (l : Letter). (eqb j (b.owner l.from) ≡ true) × (eqb i (b.owner l.to) ≡ true)) (λ (l : Letter). (eqb j (b.owner l.from) && eqb i (b.owner l.to)) ≡ true)
      (λ l h. and_from (eqb j (b.owner l.from)) (eqb i (b.owner l.to)) h.0 h.1)
      batch
      (all_both (λ (l : Letter). eqb j (b.owner l.from) ≡ true) (λ (l : Letter). eqb i (b.owner l.to) ≡ true) batch
      (all_kept_by (λ (l : Letter). eqb i (b.owner l.to)) (λ (l : Letter). eqb j (b.owner l.from) ≡ true) (letters_by b j (meant b r).post) (kept_by_passes (λ (l : Letter). eqb j (b.owner l.from)) (meant b r).post))
      (kept_by_passes (λ (l : Letter). eqb i (b.owner l.to)) (letters_by b j (meant b r).post))))

-- OVER

counting_below : (a n c : ℕ) → a + n ≤ c → AllByRecursion (λ (v : ℕ). v < c) (range_with_len a n)
counting_below a zero c h = tt
counting_below a (suc n) c h = (omega arith, counting_below (a + 1) n c (omega arith))

all_rest_true : (n : ℕ) (f : ℕ → Bool) → all_below n f ≡ true → (vs : List ℕ) → AllByRecursion (λ (v : ℕ). v < n) vs → all_true (map f vs) ≡ true
all_rest_true n f e [] h = refl
all_rest_true n f e (v ∷ vs) h = and_from (f v) (all_true (map f vs)) (all_below_lem n f e v h.0) (all_rest_true n f e vs h.1)

none_nil : {X : Type 0} (xs : List X) → none xs ≡ true → xs ≡ []
none_nil [] e = refl
none_nil (x ∷ xs) e = absurd (false≢true e)

-- where it is over, each worker is silent
pub over_silent : (b : Job) (i r : ℕ) → is_over b.places (meant b r) ≡ true → silent_meant b i r ≡ true
over_silent b i r e =
    let p = and_parts (none (meant b r).post) (all_rest b.places (meant b r).rests) e in
    and_from (all_true (share_of b i (meant b r)).rests) (none (share_of b i (meant b r)).post)
    (all_rest_true b.places (meant b r).rests (sym (rest_below b.places (meant b r).rests) ∙ p.1) (places_of b i) (all_kept_by (λ v. eqb i (b.owner v)) (λ (v : ℕ). v < b.places) (range_with_len 0 b.places) (counting_below 0 b.places b.places (omega arith))))
    (ap (λ (ls : List Letter). none (letters_to b i ls)) (none_nil (meant b r).post p.0))
