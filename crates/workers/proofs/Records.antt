-- A journal read record by record.
use Rattle.std.proofs.Common.{◌≡◌, ℕ, zero, suc, ◌+◌, ◌<◌, ◌≤◌, Bool, true, false, max, cond, eqb, ltb, List, [], ◌∷◌, ◌++◌, map, length, get_or, Some, None, Option, MatchOption, refl, ◌∙◌, arith}
use Rattle.meaning.specs.Meaning.{View}
use Rattle.crew.specs.Journals.{Record, Checkpoint, Joined, last_joined, checkpoint_from, checkpoint_of, greatest_below}

pub joined_last : (k : ℕ) (xs : List Record) (x : Record) → last_joined k (xs ++ x ∷ []) ≡ last_joined (last_joined k xs) (x ∷ [])
joined_last k [] x = refl
joined_last k (Checkpoint r s ∷ xs) x = joined_last k xs x
joined_last k (Joined j ∷ xs) x = joined_last j xs x

pub greatest_last : (g r : ℕ) (xs : List Record) (x : Record) → greatest_below g r (xs ++ x ∷ []) ≡ greatest_below (greatest_below g r xs) r (x ∷ [])
greatest_last g r [] x = refl
greatest_last g r (Checkpoint t s ∷ xs) x = greatest_last (cond (ltb t r) (max g t) g) r xs x
greatest_last g r (Joined j ∷ xs) x = greatest_last g r xs x

module _ (r : ℕ) where
  first_record : (o : Option View) (x : Record) (xs : List Record) → checkpoint_from o r (x ∷ xs) ≡ checkpoint_from (checkpoint_from o r (x ∷ [])) r xs
  first_record o (Checkpoint t s) xs = refl
  first_record o (Joined j) xs = refl

  stays : (o : Option View) (x : Record) → checkpoint_from None r (x ∷ []) ≡ None → checkpoint_from o r (x ∷ []) ≡ o
  stays o (Joined j) e = refl
  stays o (Checkpoint t s) e = go (eqb r t) e
    where
      go : (b : Bool) → cond b (Some s) None ≡ None → cond b (Some s) o ≡ o
      go true e = let z : ◌≡◌ {A = ℕ} 0 1 = cc in absurd (omega arith)
      go false e = refl

  counts : (o : Option View) (x : Record) (v : View) → checkpoint_from None r (x ∷ []) ≡ Some v → checkpoint_from o r (x ∷ []) ≡ Some v
  counts o (Joined j) v e = let z : ◌≡◌ {A = ℕ} 0 1 = cc in absurd (omega arith)
  counts o (Checkpoint t s) v e = go (eqb r t) e
    where
      go : (b : Bool) → cond b (Some s) None ≡ Some v → cond b (Some s) o ≡ Some v
      go true e = e
      go false e = let z : ◌≡◌ {A = ℕ} 0 1 = cc in absurd (omega arith)

  module _ {X : Type 0} (f : X → Record) where
    -- no record from place a on is a checkpoint of that round
    abbrev pub NoneFrom : ℕ → List X → Type 0
    NoneFrom a xs = (k : ℕ) (d : X) → a ≤ k → k < length xs → checkpoint_of r (f (get_or xs k d) ∷ []) ≡ None

    passed : (o : Option View) (xs : List X) → NoneFrom 0 xs → checkpoint_from o r (map f xs) ≡ o
    passed o [] none = refl
    passed o (x ∷ xs) none =
        first_record o (f x) (map f xs)
        ∙ passed (checkpoint_from o r (f x ∷ [])) xs (λ k d a h. none (suc k) d (omega arith) (omega arith))
        ∙ stays o (f x) (none 0 x (omega arith) (omega arith))

    found : (o : Option View) (j : ℕ) (v : View) (xs : List X) → j < length xs → ((d : X) → checkpoint_of r (f (get_or xs j d) ∷ []) ≡ Some v) → NoneFrom (j + 1) xs → checkpoint_from o r (map f xs) ≡ Some v
    found o j v [] h e none = absurd (omega arith)
    found o zero v (x ∷ xs) h e none =
        first_record o (f x) (map f xs)
        ∙ passed (checkpoint_from o r (f x ∷ [])) xs (λ k d a h. none (suc k) d (omega arith) (omega arith))
        ∙ counts o (f x) v (e x)
    found o (suc j) v (x ∷ xs) h e none =
        first_record o (f x) (map f xs)
        ∙ found (checkpoint_from o r (f x ∷ [])) j v xs (omega arith) e (λ k d a h. none (suc k) d (omega arith) (omega arith))

    -- the last checkpoint of that round, or none
    pub is_last : (o : Option View) (xs : List X) → MatchOption o (NoneFrom 0 xs) (λ v. (j : ℕ) × (j < length xs) × ((d : X) → checkpoint_of r (f (get_or xs j d) ∷ []) ≡ Some v) × NoneFrom (j + 1) xs) → checkpoint_of r (map f xs) ≡ o
    is_last None xs h = passed None xs h
    is_last (Some v) xs h = found None h.0 v xs h.1 h.2 h.3
