-- Journals that grow, and calls that are cut short.
-- Assumes nothing.
use Rattle.std.proofs.Common.{◌≡◌, ℕ, zero, suc, ◌≤◌, Bool, true, cond, eqb, leb, ◌⊎◌, List, [], ◌∷◌, ◌++◌, length, take, is_some, Some, None, Option, refl, ap, ◌∙◌, inl, inr, arith}
use lib.Dec.{leb-zero}
use Rattle.std.proofs.lemmas.Bool.{eq-eqb, le-leb, cond_both}
use Rattle.meaning.specs.Meaning.{View}
use Rattle.crew.specs.Journals.{Record, Checkpoint, Joined, Note, Began, Noted, last_joined, last_began, last_noted, checkpoint_from, checkpoint_of}
use Rattle.runs.specs.World.{Effect, said_by}

-- WHAT IS APPENDED is looked through after what was there.

joined_append : (n : ℕ) (js ks : List Record) → last_joined n (js ++ ks) ≡ last_joined (last_joined n js) ks
joined_append n [] ks = refl
joined_append n (Checkpoint r s ∷ js) ks = joined_append n js ks
joined_append n (Joined k ∷ js) ks = joined_append k js ks

checkpoint_append : (o : Option View) (t : ℕ) (js ks : List Record) → checkpoint_from o t (js ++ ks) ≡ checkpoint_from (checkpoint_from o t js) t ks
checkpoint_append o t [] ks = refl
checkpoint_append o t (Checkpoint r s ∷ js) ks = checkpoint_append (cond (eqb t r) (Some s) o) t js ks
checkpoint_append o t (Joined k ∷ js) ks = checkpoint_append o t js ks

pub began_append : (n : ℕ) (js ks : List Note) → last_began n (js ++ ks) ≡ last_began (last_began n js) ks
began_append n [] ks = refl
began_append n (Began k ∷ js) ks = began_append k js ks
began_append n (Noted r ∷ js) ks = began_append n js ks

pub noted_append : (n : ℕ) (js ks : List Note) → last_noted n (js ++ ks) ≡ last_noted (last_noted n js) ks
noted_append n [] ks = refl
noted_append n (Began k ∷ js) ks = noted_append n js ks
noted_append n (Noted r ∷ js) ks = noted_append r js ks

-- JOURNALS OF WORKERS

-- the first attempt that a worker may still join: none was joined where the journal is empty
abbrev pub level : List Record → ℕ
level [] = 0
level (x ∷ xs) = suc (last_joined 0 (x ∷ xs))

-- it has a checkpoint of round t
abbrev pub has : ℕ → List Record → Bool
has t js = is_some (checkpoint_of t js)

pub level_joined : (js : List Record) (k : ℕ) → level (js ++ Joined k ∷ []) ≡ suc k
level_joined [] k = refl
level_joined (x ∷ js) k = ap suc (joined_append 0 (x ∷ js) (Joined k ∷ []))

pub level_kept : (js : List Record) (a : ℕ) → level js ≡ suc a → (r : ℕ) (s : View) → level (js ++ Checkpoint r s ∷ []) ≡ level js
level_kept [] a e r s = absurd (omega arith)
level_kept (x ∷ js) a e r s = ap suc (joined_append 0 (x ∷ js) (Checkpoint r s ∷ []))

stays_some : (o : Option View) (t : ℕ) (js : List Record) → is_some o ≡ true → is_some (checkpoint_from o t js) ≡ true
stays_some o t [] e = e
stays_some o t (Checkpoint r s ∷ js) e = stays_some (cond (eqb t r) (Some s) o) t js (cond_both (eqb t r) (Some s) o (λ (p : Option View). is_some p ≡ true) (λ q. refl) (λ q. e))
stays_some o t (Joined k ∷ js) e = stays_some o t js e

-- a checkpoint stays, whatever is appended, and one that is appended is there
pub has_more : (t : ℕ) (js ks : List Record) → has t js ≡ true → has t (js ++ ks) ≡ true
has_more t js ks e = ap is_some (checkpoint_append None t js ks) ∙ stays_some (checkpoint_of t js) t ks e

pub has_new : (js : List Record) (t : ℕ) (s : View) → has t (js ++ Checkpoint t s ∷ []) ≡ true
has_new js t s = ap is_some (checkpoint_append None t js (Checkpoint t s ∷ [])) ∙ ap (λ (c : Bool). is_some (cond c (Some s) (checkpoint_of t js))) (eq-eqb t t refl)

-- CUT SHORT

-- A call that appends at most one record and is cut short has either done nothing, or appended all and said some.
pub cut_either : {S R : Type 0} (e : Effect S R) (c d : ℕ) → length e.appends ≤ 1 →
    ((take c e.appends ≡ []) × (said_by e c d ≡ [])) ⊎ ((take c e.appends ≡ e.appends) × (said_by e c d ≡ take d e.says))
cut_either {S} {R} e c d few = go e.appends c few
  where
    none : (c : ℕ) → take {A = R} c [] ≡ []
    none zero = refl
    none (suc c) = refl

    go : (xs : List R) (c : ℕ) → length xs ≤ 1 → ((take c xs ≡ []) × (cond (leb (length xs) c) (take d e.says) [] ≡ [])) ⊎ ((take c xs ≡ xs) × (cond (leb (length xs) c) (take d e.says) [] ≡ take d e.says))
    go [] c few = inr (none c, ap (λ (t : Bool). cond t (take d e.says) []) (leb-zero c))
    go (x ∷ []) zero few = inl (refl, refl)
    go (x ∷ []) (suc c) few = inr (ap (λ (xs : List R). x ∷ xs) (none c), ap (λ (t : Bool). cond t (take d e.says) []) (le-leb 1 (suc c) (omega arith)))
    go (x ∷ y ∷ xs) c few = absurd (omega arith)
