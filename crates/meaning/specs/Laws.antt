-- Laws of the meaning: what must hold of it whichever way it is written down.
-- Assumes nothing.
use Rattle.std.specs.Prelude.{◌≡◌, ℕ, suc, ◌+◌, ◌<◌, ◌≤◌, true, false, List, [], ◌∷◌, filter, nat_eq}
use Rattle.std.specs.List.{AllByRecursion}
use Rattle.meaning.specs.Meaning.{Letter, Program, World, letters_for, turn_at, rounds, is_over, seen}

-- Two worlds that agree on n places and on the letters under way.
pub record Agree (n : ℕ) (a b : World) : Type 0 where
  pub states : (v : ℕ) → v < n → a.state v ≡ b.state v
  pub rests : (v : ℕ) → v < n → a.rests v ≡ b.rests v
  pub post : a.post ≡ b.post

-- Senders never fall.
abbrev pub Rising : List Letter → Type 0
Rising [] = Unit {0}
Rising (l ∷ ls) = AllByRecursion (λ (m : Letter). l.from ≤ m.from) ls × Rising ls

abbrev pub sent_by : ℕ → List Letter → List Letter
sent_by u = filter (λ (l : Letter). nat_eq u l.from)

-- 1. Letters come to a place by rising senders, and those of one sender are what it sent to the place, in the order sent: nothing else comes.
abbrev pub ByRisingSenders : Type 0
ByRisingSenders =
    (n : ℕ) (q : Program) (r v : ℕ) →
    Rising (letters_for v (rounds n q (suc r)).post) ×
    ((u : ℕ) → u < n → sent_by u (letters_for v (rounds n q (suc r)).post) ≡ letters_for v (turn_at n q r (rounds n q r) u).sent) ×
    ((u : ℕ) → n ≤ u → sent_by u (letters_for v (rounds n q (suc r)).post) ≡ [])

-- 2. No letter to a place that isn't there ever counts.
abbrev pub OnlyToThere : Type 0
OnlyToThere = (n : ℕ) (q : Program) (r : ℕ) → AllByRecursion (λ (l : Letter). l.to < n) (rounds n q r).post

-- 3. What a place comes to depends on its own state, its rest and its letters alone.
abbrev pub OnItsOwn : Type 0
OnItsOwn =
    (n : ℕ) (q : Program) (r : ℕ) (a b : World) (v : ℕ) → a.state v ≡ b.state v → a.rests v ≡ b.rests v → letters_for v a.post ≡ letters_for v b.post → turn_at n q r a v ≡ turn_at n q r b v

-- 4. Once over, every later round is the same, and over.
abbrev pub OverStays : Type 0
OverStays = (n : ℕ) (q : Program) (r k : ℕ) → is_over n (rounds n q r) ≡ true → (seen n (rounds n q (r + k)) ≡ seen n (rounds n q r)) × (is_over n (rounds n q (r + k)) ≡ true)

-- 5. It is not over while a place doesn't rest.
abbrev pub NotWhileAwake : Type 0
NotWhileAwake = (n v : ℕ) (w : World) → v < n → w.rests v ≡ false → is_over n w ≡ false

-- 6. It is not over while a letter is under way.
abbrev pub NotWhileUnderWay : Type 0
NotWhileUnderWay = (n : ℕ) (w : World) (l : Letter) (ls : List Letter) → w.post ≡ l ∷ ls → is_over n w ≡ false
