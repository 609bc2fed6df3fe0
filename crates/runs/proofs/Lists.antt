-- Lists, members and options; one among all; what holds below a number; and letters that were parted, put together again.
-- Assumes nothing.
use Rattle.std.proofs.Common.{◌≡◌, ℕ, zero, suc, ◌+◌, ◌<◌, ◌≤◌, min, Bool, true, false, cond, ◌&&◌, ◌||◌, eqb, leb, List, [], ◌∷◌, ◌++◌, map, Some, None, filter, Option, sym, refl, ap, ◌∙◌, subst, ⊎_elim, add-zero, arith}
use mathlib.Core.List.{Memᴰ}
use Rattle.std.specs.List.{range_with_len, AllByRecursion}
use Rattle.std.proofs.ByRecursion.{All-weaker, All-map, all_kept_by, kept_by_passes}
use Rattle.std.proofs.lemmas.Bool.{le-leb, lt-leb, eq-eqb, ne_eqb, eqb-true, and_parts, and_from, and_left, and_right, cond_both, cases_eq, cases_lt}
use Rattle.meaning.specs.Meaning.{Letter, none}
use Rattle.meaning.specs.Laws.{Rising}
use Rattle.crew.specs.Job.{all_below}
use Rattle.crew.specs.Worker.{placed, merge}
use Rattle.crew.specs.Foreman.{least_of}
use Rattle.runs.specs.World.{put}

-- WHAT HOLDS OF ALL

pub all_mem : {X : Type 0} (P : X → Type 0) {x : X} {xs : List X} → Memᴰ x xs → AllByRecursion P xs → P x
all_mem P (Memᴰ.head e) h = subst P (sym e) h.0
all_mem P (Memᴰ.tail m) h = all_mem P m h.1

pub all_always : {X : Type 0} (P : X → Type 0) → ((x : X) → P x) → (xs : List X) → AllByRecursion P xs
all_always P f [] = tt
all_always P f (x ∷ xs) = (f x, all_always P f xs)

pub all_both : {X : Type 0} (P Q : X → Type 0) (xs : List X) → AllByRecursion P xs → AllByRecursion Q xs → AllByRecursion (λ x. P x × Q x) xs
all_both P Q [] h k = tt
all_both P Q (x ∷ xs) (h, hs) (k, ks) = ((h, k), all_both P Q xs hs ks)

-- what holds of whatever is made holds of all that is made
pub all_made : {X Y : Type 0} (P : X → Type 0) (f : Y → X) → ((y : Y) → P (f y)) → (ys : List Y) → AllByRecursion P (map f ys)
all_made P f h ys = All-map P f ys (all_always (λ y. P (f y)) h ys)

-- what is made of each number below n is there
pub mem_each : {X : Type 0} (f : ℕ → X) (n j : ℕ) → j < n → Memᴰ (f j) (map f (range_with_len 0 n))
mem_each {X} f n j h = subst (λ (k : ℕ). Memᴰ (f k) (map f (range_with_len 0 n))) (let e : 0 + j ≡ j = omega arith in e) (from 0 n j h)
  where
    from : (a n j : ℕ) → j < n → Memᴰ (f (a + j)) (map f (range_with_len a n))
    from a zero j h = absurd (omega arith)
    from a (suc n) zero h = Memᴰ.head (let e : a + 0 ≡ a = omega arith in λ i. f (e i))
    from a (suc n) (suc j) h =
        Memᴰ.tail (subst (λ (k : ℕ). Memᴰ (f k) (map f (range_with_len (a + 1) n))) (let e : (a + 1) + j ≡ a + suc j = omega arith in e) (from (a + 1) n j (omega arith)))

-- OPTIONS

pub nobody : {X : Type 0} {x : X} {A : Type 0} → ◌≡◌ {A = Option X} None (Some x) → A
nobody e = let z : ◌≡◌ {A = ℕ} 0 1 = cc in absurd (omega arith)

pub same_some : {X : Type 0} {x y : X} → Some x ≡ Some y → y ≡ x
same_some e = cc

-- what is true of one is true of whichever is the same
pub only : {X : Type 0} (P : X → Type 0) (x : X) → P x → (z : X) → Some x ≡ Some z → P z
only P x p z e = subst P (sym (same_some e)) p

-- ONE AMONG ALL

pub put_same : {X : Type 0} (i : ℕ) (x : X) (f : ℕ → X) → put i x f i ≡ x
put_same i x f = ap (λ (t : Bool). cond t x (f i)) (eq-eqb i i refl)

pub put_other : {X : Type 0} (i : ℕ) (x : X) (f : ℕ → X) (j : ℕ) → (j ≡ i → ⊥) → put i x f j ≡ f j
put_other i x f j ne = ap (λ (t : Bool). cond t x (f j)) (ne_eqb j i ne)

-- what holds of the new one, or held of another, holds there
pub put_here : {X : Type 0} (P : X → Type 0) (i : ℕ) (x : X) (f : ℕ → X) → P x → P (put i x f i)
put_here P i x f h = subst P (sym (put_same i x f)) h

pub put_there : {X : Type 0} (P : X → Type 0) (i : ℕ) (x : X) (f : ℕ → X) (j : ℕ) → (j ≡ i → ⊥) → P (f j) → P (put i x f j)
put_there P i x f j ne h = subst P (sym (put_other i x f j ne)) h

-- what holds of the new one and of all that were there holds of all
pub put_all : {X : Type 0} (P : ℕ → X → Type 0) (i : ℕ) (x : X) (f : ℕ → X) → P i x → ((j : ℕ) → P j (f j)) → (j : ℕ) → P j (put i x f j)
put_all P i x f h k j = cond_both (eqb j i) x (f j) (P j) (λ e. subst (λ (q : ℕ). P q x) (sym (eqb-true j i e)) h) (λ e. k j)

-- BELOW A NUMBER

-- below the next is below, or at
pub below_next : (P : ℕ → Type 0) (c : ℕ) → ((j : ℕ) → j < c → P j) → P c → (j : ℕ) → j < suc c → P j
below_next P c h p j lt = ⊎_elim (λ is. subst P (sym is) p) (λ ne. h j (omega arith)) (cases_eq j c)

pub all_below_lem : (c : ℕ) (f : ℕ → Bool) → all_below c f ≡ true → (j : ℕ) → j < c → f j ≡ true
all_below_lem zero f e j lt = absurd (omega arith)
all_below_lem (suc c) f e j lt = let p = and_parts (f c) (all_below c f) e in below_next (λ i. f i ≡ true) c (all_below_lem c f p.1) p.0 j lt

pub below_all : (c : ℕ) (f : ℕ → Bool) → ((j : ℕ) → j < c → f j ≡ true) → all_below c f ≡ true
below_all zero f h = refl
below_all (suc c) f h = and_from (f c) (all_below c f) (h c (omega arith)) (below_all c f (λ j lt. h j (omega arith)))

pub below_not : (c : ℕ) (f : ℕ → Bool) (j : ℕ) → j < c → f j ≡ false → all_below c f ≡ false
below_not zero f j lt e = absurd (omega arith)
below_not (suc c) f j lt e = ⊎_elim (λ is. and_left (f c) (all_below c f) (ap f (sym is) ∙ e)) (λ ne. and_right (f c) (all_below c f) (below_not c f j (omega arith) e)) (cases_eq j c)

-- the least of some numbers is one of them, and at most each
pub least_is : (P : ℕ → Type 0) (g c : ℕ) (f : ℕ → ℕ) → P g → ((j : ℕ) → j < c → P (f j)) → P (least_of g c f)
least_is P g zero f p h = p
least_is P g (suc c) f p h =
    ⊎_elim
    (λ (l : f c < least_of g c f). subst P (let e : f c ≡ min (f c) (least_of g c f) = omega arith in e) (h c (omega arith)))
    (λ (l : least_of g c f ≤ f c). subst P (let e : least_of g c f ≡ min (f c) (least_of g c f) = omega arith in e) (least_is P g c f p (λ j lt. h j (omega arith))))
    (cases_lt (f c) (least_of g c f))

pub least_first : (g c : ℕ) (f : ℕ → ℕ) → least_of g c f ≤ g
least_first g zero f = omega arith
least_first g (suc c) f = omega (arith, least_first g c f)

pub least_le : (g c : ℕ) (f : ℕ → ℕ) (j : ℕ) → j < c → least_of g c f ≤ f j
least_le g zero f j lt = absurd (omega arith)
least_le g (suc c) f j lt = below_next (λ i. least_of g (suc c) f ≤ f i) c (λ i l. omega (arith, least_le g c f i l)) (omega arith) j lt

-- WHAT IS KEPT

pub kept_same : {X : Type 0} (p q : X → Bool) (xs : List X) → AllByRecursion (λ x. p x ≡ q x) xs → filter p xs ≡ filter q xs
kept_same p q [] h = refl
kept_same p q (x ∷ xs) (h, hs) = λ i. cond (h i) (x ∷ kept_same p q xs hs i) (kept_same p q xs hs i)

pub kept_kept : {X : Type 0} (p q : X → Bool) (xs : List X) → filter p (filter q xs) ≡ filter (λ x. q x && p x) xs
kept_kept p q [] = refl
kept_kept {X} p q (x ∷ xs) = go (q x) (kept_kept p q xs)
  where
    go : (b : Bool) → filter p (filter q xs) ≡ filter (λ x. q x && p x) xs →
        filter p (cond b (x ∷ filter q xs) (filter q xs)) ≡ cond (b && p x) (x ∷ filter (λ x. q x && p x) xs) (filter (λ x. q x && p x) xs)
    go true e = ap (λ (l : List X). cond (p x) (x ∷ l) l) e
    go false e = e

-- a filter after one that passes at least as much
pub kept_within : {X : Type 0} (p q : X → Bool) → ((x : X) → p x ≡ true → q x ≡ true) → (xs : List X) → filter p (filter q xs) ≡ filter p xs
kept_within {X} p q h xs = kept_kept p q xs ∙ kept_same (λ x. q x && p x) p xs (all_always (λ x. (q x && p x) ≡ p x) (λ x. go x (p x) refl) xs)
  where
    go : (x : X) (b : Bool) → p x ≡ b → (q x && p x) ≡ p x
    go x true e = ap (λ a. a && p x) (h x e)
    go x false e = and_right (q x) (p x) e ∙ sym e

pub counting_more : (a n : ℕ) → range_with_len a (suc n) ≡ range_with_len a n ++ (a + n) ∷ []
counting_more a zero = ap (λ k. k ∷ []) (sym (add-zero a))
counting_more a (suc n) = ap (λ l. a ∷ l) (counting_more (a + 1) n ∙ ap (λ k. range_with_len (a + 1) n ++ k ∷ []) (let e : (a + 1) + n ≡ a + suc n = omega arith in e))

-- PUTTING LETTERS TOGETHER

placed_front : (x : Letter) (rest : List Letter → List Letter) (ys : List Letter) → AllByRecursion (λ (y : Letter). x.from ≤ y.from) ys → placed x rest ys ≡ x ∷ rest ys
placed_front x rest [] h = refl
placed_front x rest (y ∷ ys) (h, hs) = ap (λ b. cond b (x ∷ rest (y ∷ ys)) (y ∷ placed x rest ys)) (le-leb x.from y.from h)

merge_past : (x : Letter) (zs ys : List Letter) → AllByRecursion (λ (z : Letter). x.from < z.from) zs → merge zs (x ∷ ys) ≡ x ∷ merge zs ys
merge_past x [] ys h = refl
merge_past x (z ∷ zs) ys (h, hs) = ap (λ b. cond b (z ∷ merge zs (x ∷ ys)) (x ∷ placed z (merge zs) ys)) (lt-leb z.from x.from h)

-- THE KEY: two parts of letters by rising senders, that share no sender, put together give what either keeps.
pub merge_kept : (p q : Letter → Bool) → ((x y : Letter) → p x ≡ true → q y ≡ true → x.from ≡ y.from → ⊥) → (ls : List Letter) → Rising ls → merge (filter p ls) (filter q ls) ≡ filter (λ l. p l || q l) ls
merge_kept p q apart [] s = refl
merge_kept p q apart (x ∷ xs) (first, rest) = go (p x) (q x) refl refl (merge_kept p q apart xs rest)
  where
    later : (t : Letter → Bool) → AllByRecursion (λ (y : Letter). x.from ≤ y.from) (filter t xs)
    later t = all_kept_by t (λ (y : Letter). x.from ≤ y.from) xs first

    after : q x ≡ true → AllByRecursion (λ (y : Letter). x.from < y.from) (filter p xs)
    after e =
        All-weaker (λ (y : Letter). (x.from ≤ y.from) × (p y ≡ true)) (λ (y : Letter). x.from < y.from)
        (λ y h. let ne : y.from ≡ x.from → ⊥ = apart y x h.1 e in let le : x.from ≤ y.from = h.0 in omega arith)
        (filter p xs)
        (all_both (λ (y : Letter). x.from ≤ y.from) (λ (y : Letter). p y ≡ true) (filter p xs) (later p) (kept_by_passes p xs))

    go : (a b : Bool) → p x ≡ a → q x ≡ b → merge (filter p xs) (filter q xs) ≡ filter (λ l. p l || q l) xs →
        merge (cond a (x ∷ filter p xs) (filter p xs)) (cond b (x ∷ filter q xs) (filter q xs)) ≡ cond (a || b) (x ∷ filter (λ l. p l || q l) xs) (filter (λ l. p l || q l) xs)
    go true true e f ih = absurd (apart x x e f refl)
    go true false e f ih = placed_front x (merge (filter p xs)) (filter q xs) (later q) ∙ ap (λ l. x ∷ l) ih
    go false true e f ih = merge_past x (filter p xs) (filter q xs) (after f) ∙ ap (λ l. x ∷ l) ih
    go false false e f ih = ih

-- nothing is there after just if nothing was in either
pub none_merge : (xs ys : List Letter) → none (merge xs ys) ≡ (none xs && none ys)
none_merge [] ys = refl
none_merge (x ∷ xs) [] = refl
none_merge (x ∷ xs) (y ∷ ys) = go (leb x.from y.from)
  where
    go : (b : Bool) → none (cond b (x ∷ merge xs (y ∷ ys)) (y ∷ placed x (merge xs) ys)) ≡ false
    go true = refl
    go false = refl
