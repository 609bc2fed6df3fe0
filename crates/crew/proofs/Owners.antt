-- Who has a place, by stretches and by an even sharing.
use Rattle.std.proofs.Common.{◌≡◌, ℕ, zero, suc, ◌*◌, ◌/◌, ◌<◌, ◌≤◌, true, cond, eqb, ltb, leb, List, [], ◌∷◌, ◌++◌, length, get_or, refl, ap, ◌∙◌, mul-le-mul_right, div-mul-le_self, arith}
use Rattle.std.proofs.lemmas.Nat.{le-div}
use Rattle.std.proofs.lemmas.Bool.{ltb-true, and_parts, cond_both, le-leb, lt-leb}
use Rattle.meaning.specs.Meaning.{Program}
use Rattle.crew.specs.Job.{Proper}
use Rattle.crew.specs.Shared.{owner_from, job_of, nowhere, stands, Covers, share_start}
use Rattle.crew.specs.declared.partition.Partition.{Partition}
use Rattle.crew.specs.declared.partition.Stretch.{Stretch}

-- one stretch more
pub owner_more : (w : ℕ) (ss : List Stretch) (s : Stretch) (v : ℕ) → owner_from w (ss ++ s ∷ []) v ≡ cond (leb s.first.0 v) s.worker.0 (owner_from w ss v)
owner_more w [] s v = refl
owner_more w (t ∷ ss) s v = owner_more (cond (leb t.first.0 v) t.worker.0 w) ss s v

pub owner_here : (w : ℕ) (ss : List Stretch) (s : Stretch) (v : ℕ) → s.first.0 ≤ v → owner_from w (ss ++ s ∷ []) v ≡ s.worker.0
owner_here w ss s v h = owner_more w ss s v ∙ ap (λ b. cond b s.worker.0 (owner_from w ss v)) (le-leb s.first.0 v h)

pub owner_before : (w : ℕ) (ss : List Stretch) (s : Stretch) (v : ℕ) → v < s.first.0 → owner_from w (ss ++ s ∷ []) v ≡ owner_from w ss v
owner_before w ss s v h = owner_more w ss s v ∙ ap (λ b. cond b s.worker.0 (owner_from w ss v)) (lt-leb s.first.0 v h)

-- a stretch that is there is some worker's
pub owner_below : (m w : ℕ) (ss : List Stretch) (v : ℕ) → w < m → ((i : ℕ) → i < length ss → (get_or ss i nowhere).worker.0 < m) → owner_from w ss v < m
owner_below m w [] v h all = h
owner_below m w (s ∷ ss) v h all =
    owner_below m (cond (leb s.first.0 v) s.worker.0 w) ss v
    (cond_both (leb s.first.0 v) s.worker.0 w (λ x. x < m) (λ _. all 0 (omega arith)) (λ _. h))
    (λ i l. all (suc i) (omega arith))

-- what stands at a place of the list is within the table
pub stands_parts : (n m : ℕ) (ss : List Stretch) (i : ℕ) → stands n m ss i ≡ true → ((get_or ss i nowhere).first.0 < n) × ((get_or ss i nowhere).worker.0 < m)
stands_parts n m ss zero h =
    let s = get_or ss 0 nowhere in
    let p = (and_parts (eqb s.first.0 0) _ h).1 in
    let q = and_parts (ltb s.first.0 n) (ltb s.worker.0 m) p in
    (ltb-true s.first.0 n q.0, ltb-true s.worker.0 m q.1)
stands_parts n m ss (suc i) h =
    let s = get_or ss (suc i) nowhere in
    let p = (and_parts (ltb (get_or ss i nowhere).first.0 s.first.0) _ h).1 in
    let q = and_parts (ltb s.first.0 n) (ltb s.worker.0 m) p in
    (ltb-true s.first.0 n q.0, ltb-true s.worker.0 m q.1)

-- stretches rise
pub stands_rise : (n m : ℕ) (ss : List Stretch) (i : ℕ) → stands n m ss (suc i) ≡ true → (get_or ss i nowhere).first.0 < (get_or ss (suc i) nowhere).first.0
stands_rise n m ss i h =
    let s = get_or ss (suc i) nowhere in
    ltb-true (get_or ss i nowhere).first.0 s.first.0 (and_parts (ltb (get_or ss i nowhere).first.0 s.first.0) _ h).0

-- with a table, every place has a worker
pub covered : (n m : ℕ) (ss : List Stretch) (v : ℕ) → 1 ≤ m → Covers n m ss → owner_from 0 ss v < m
covered n m ss v h c = owner_below m 0 ss v (omega arith) (λ i l. (stands_parts n m ss i (c.each i l)).1)

pub share_rises : (n m u w : ℕ) → 1 ≤ m → u ≤ w → share_start n m u ≤ share_start n m w
share_rises n m u w s h = le-div (u * n / m) (w * n) m (omega arith) (omega (arith, div-mul-le_self (u * n) m, mul-le-mul_right n h))

-- A table's job is a proper one.
pub proper : (p : Partition) (q : Program) → Proper (job_of p q)
proper p q = record { some = p.some; few = p.many; owned = p.owned }
