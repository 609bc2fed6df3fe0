-- What `find_map` over a list from its end has found.
use Rattle.std.proofs.Common.{◌≡◌, ℕ, ◌+◌, ◌-◌, ◌<◌, ◌≤◌, Bool, true, List, length, get_or, Some, None, Option, MatchOption, Bor, subst, sym, ap, ◌∙◌, arith}
use Rattle.std.specs.Option.{option_map, IsSomeAnd, IfSome}
use Rattle.std.specs.Fn.{Called}
use denote.Param.Members.{Mut}

module _ {X F C V : Type 0} (g : Mut F (Bor X × Unit {0}) (Option C)) (f : F) (w : C → V) (h : X → Option V) (calls : (x : Bor X) (o : Option C) (q : F) → Called g f (x, tt) o q → (q ≡ f) × (option_map w o ≡ h x.now)) where
  gave_all : (o : Option (Bor X)) (y : X) (r : Option C) → option_map (λ (x : Bor X). x.now) o ≡ Some y → IfSome o (λ x. Called g f (x, tt) r f) → h y ≡ option_map w r
  gave_all None y r e k = let z : ◌≡◌ {A = ℕ} 0 1 = cc in absurd (omega arith)
  gave_all (Some x) y r e k = let same : x.now ≡ y = cc in ap h (sym same) ∙ sym (calls x r f k).1

  gave_some : (o : Option (Bor X)) (y : X) (r : Option C) → option_map (λ (x : Bor X). x.now) o ≡ Some y → IsSomeAnd o (λ x. Called g f (x, tt) r f) → h y ≡ option_map w r
  gave_some None y r e k = absurd k
  gave_some (Some x) y r e k = gave_all (Some x) y r e k

  module _ (xs : List X) (len : ℕ) (whole : Bool) (at : ℕ → Option (Bor X)) (all : whole ≡ true → len ≡ length xs) (few : len ≤ length xs)
      (reads : (k : ℕ) (d : X) → k < length xs → length xs - 1 - k < len → option_map (λ (x : Bor X). x.now) (at (length xs - 1 - k)) ≡ Some (get_or xs k d)) where
    abbrev pub Keeps : Type 0
    Keeps = (a : Bor X × Unit {0}) (r : Option C) (q : F) → Called g f a r q → q ≡ f

    keeps : Keeps
    keeps a r q k = (calls a.0 r q k).0

    -- none is given from place a on
    abbrev pub NoneFrom : ℕ → Type 0
    NoneFrom a = (k : ℕ) (d : X) → a ≤ k → k < length xs → h (get_or xs k d) ≡ None

    pub last_given : (o : Option C)
        → MatchOption o ((whole ≡ true) × (Keeps → (i : ℕ) → IfSome (at i) (λ x. Called g f (x, tt) None f)))
        (λ y. (i : ℕ) × (i < len) × (len ≡ i + 1) × (Keeps → IsSomeAnd (at i) (λ x. Called g f (x, tt) (Some y) f) × ((k : ℕ) → k < i → IsSomeAnd (at k) (λ x. Called g f (x, tt) None f))))
        → MatchOption (option_map w o) (NoneFrom 0) (λ v. (j : ℕ) × (j < length xs) × ((d : X) → h (get_or xs j d) ≡ Some v) × NoneFrom (j + 1))
    last_given None e = λ k d a lt. gave_all (at (length xs - 1 - k)) (get_or xs k d) None (reads k d lt (omega (arith, all e.0))) (e.1 keeps (length xs - 1 - k))
    last_given (Some y) e =
        let i = e.0 in
        let j = length xs - 1 - i in
        let back : length xs - 1 - j ≡ i = omega (arith, few, e.1) in
        let given = e.3 keeps in (
          j,
          omega (arith, few, e.1),
          (λ d. gave_some (at (length xs - 1 - j)) (get_or xs j d) (Some y) (reads j d (omega (arith, few, e.1)) (omega (arith, few, e.1))) (subst (λ n. IsSomeAnd (at n) (λ x. Called g f (x, tt) (Some y) f)) (sym back) given.0)),
          (λ k d a lt. gave_some (at (length xs - 1 - k)) (get_or xs k d) None (reads k d lt (omega (arith, few, e.1, a))) (given.1 (length xs - 1 - k) (omega (arith, few, e.1, a)))),
        )
