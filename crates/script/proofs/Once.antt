-- A setting that may be said only once.
use Rattle.std.proofs.Common.{◌≡◌, ℕ, List, [], ◌∷◌, ◌++◌, Some, None, Ok, Err, Option, Result, refl, ap, arith}
use Rattle.script.specs.Given.{first_of, given_or, once}
use Rattle.script.specs.Reading.{lacking}

module _ {X E : Type 0} where
  -- what was said so far
  abbrev pub said : Option (Result X E) → List (Result X E)
  said None = []
  said (Some r) = r ∷ []

  -- it was not bad
  abbrev pub IsGood : Option (Result X E) → Type 0
  IsGood None = Unit {0}
  IsGood (Some (Ok x)) = Unit {0}
  IsGood (Some (Err e)) = ⊥

  -- with no fault it adds what it says
  pub at_once : (e : E) (r : Option (Result X E)) (x : Result X E) (xs ns : List (Result X E)) → once e r x ≡ Ok tt → said (Some (first_of r x)) ++ xs ≡ ns → said r ++ (x ∷ xs) ≡ ns
  at_once e None (Ok x) xs ns h t = t
  at_once e None (Err y) xs ns h t = absurd (let z : ◌≡◌ {A = ℕ} 0 1 = cc in omega arith)
  at_once e (Some y) x xs ns h t = absurd (let z : ◌≡◌ {A = ℕ} 0 1 = cc in omega arith)

  pub good_once : (e : E) (r : Option (Result X E)) (x : Result X E) → once e r x ≡ Ok tt → IsGood (Some (first_of r x))
  good_once e None (Ok x) h = tt
  good_once e None (Err y) h = absurd (let z : ◌≡◌ {A = ℕ} 0 1 = cc in omega arith)
  good_once e (Some y) x h = absurd (let z : ◌≡◌ {A = ℕ} 0 1 = cc in omega arith)

  -- and where in all one good thing is said, there is no fault
  pub on_once : (e : E) (r : Option (Result X E)) (x : Result X E) (xs : List (Result X E)) (y : X) → said r ++ (x ∷ xs) ≡ Ok y ∷ [] → (once e r x ≡ Ok tt) × (said (Some (first_of r x)) ++ xs ≡ Ok y ∷ [])
  on_once e None (Ok x) xs y t = (refl, t)
  on_once e None (Err x) xs y t = absurd (let z : ◌≡◌ {A = ℕ} 0 1 = cc in omega arith)
  on_once e (Some z) x xs y t = absurd (let z : ◌≡◌ {A = ℕ} 0 1 = cc in omega arith)

  pub end_once : (r : Option (Result X E)) (y : X) → said r ++ [] ≡ Ok y ∷ [] → r ≡ Some (Ok y)
  end_once None y t = absurd (let z : ◌≡◌ {A = ℕ} 0 1 = cc in omega arith)
  end_once (Some r) y t = ap (λ x. Some x) (let e : r ≡ Ok y = cc in e)

  pub none_once : (r : Option (Result X E)) → said r ++ [] ≡ [] → r ≡ None
  none_once None t = refl
  none_once (Some r) t = absurd (let z : ◌≡◌ {A = ℕ} 0 1 = cc in omega arith)

  pub said_end : (r : Option (Result X E)) → said r ++ [] ≡ said r
  said_end None = refl
  said_end (Some r) = refl

  -- what is good and not missing is set
  pub set_is : {F : Type 0} (d : X) (e : F) (r : Option (Result X E)) → IsGood r → lacking r e ≡ [] → r ≡ Some (Ok (given_or d r))
  set_is d e None g h = absurd (let z : ◌≡◌ {A = ℕ} 0 1 = cc in omega arith)
  set_is d e (Some (Ok x)) g h = refl
  set_is d e (Some (Err y)) g h = absurd g
