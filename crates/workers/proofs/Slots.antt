-- A table of what came, by number.
use Rattle.std.proofs.Common.{◌≡◌, ℕ, zero, suc, ◌<◌, ◌≤◌, Bool, true, false, cond, eqb, ◌≢◌, List, length, get_or, take, set, replicate, None, Option, refl, ap, ◌∙◌, ⊎_elim, arith, eqb-true}
use borrow.Author.Tests.{eqb-false}
use Rattle.std.specs.Option.{option_map}
use Rattle.meaning.specs.Meaning.{Letter}
use Rattle.meaning.specs.Packets.{letters_of}
use Rattle.meaning.specs.declared.letters.Letters.{Letters}
use Rattle.crew.specs.Worker.{merge, merged_below, letters_in}
use Rattle.std.proofs.lemmas.List.{get_or_past, get_or-replicate, length-replicate, get_or-set_same, get_or-set_other, get_or-take, length-take-le}
use Rattle.std.proofs.lemmas.Bool.{cases_lt}

pub get_or_same : {X : Type 0} (n k : ℕ) (x : X) → get_or (replicate n x) k x ≡ x
get_or_same n k x =
    ⊎_elim
    (λ lt. get_or-replicate n k x x lt)
    (λ le. get_or_past (replicate n x) k x (omega (arith, length-replicate n x)))
    (cases_lt k n)

pub get_or_put : {X : Type 0} (xs : List X) (j k : ℕ) (x d : X) → j < length xs → get_or (set xs j x) k d ≡ cond (eqb k j) x (get_or xs k d)
get_or_put xs j k x d lt = go (eqb k j) refl
  where
    go : (b : Bool) → eqb k j ≡ b → get_or (set xs j x) k d ≡ cond b x (get_or xs k d)
    go true e = let s : k ≡ j = eqb-true k j e in ap (λ m. get_or (set xs j x) m d) s ∙ get_or-set_same xs j x d lt
    go false e = let ne : k ≢ j = eqb-false k j e in get_or-set_other xs j k x d ne

pub mapped_cond : {X Y : Type 0} (f : X → Y) (b : Bool) (x y : Option X) → option_map f (cond b x y) ≡ cond b (option_map f x) (option_map f y)
mapped_cond f true x y = refl
mapped_cond f false x y = refl

-- what is put together depends on the first batches alone
pub merged_agree : (f g : ℕ → Option (List Letter)) (c : ℕ) → ((j : ℕ) → j < c → f j ≡ g j) → merged_below f c ≡ merged_below g c
merged_agree f g zero e = refl
merged_agree f g (suc c) e = λ i. merge (merged_agree f g c (λ j h. e j (omega arith)) i) (letters_in (e c (omega arith) i))

pub merged_front : (xs : List (Option Letters)) (c : ℕ) → c ≤ length xs → merged_below (λ j. option_map letters_of (get_or (take c xs) j None)) (length (take c xs)) ≡ merged_below (λ j. option_map letters_of (get_or xs j None)) c
merged_front xs c h =
    ap (merged_below (λ j. option_map letters_of (get_or (take c xs) j None))) (length-take-le c xs h)
    ∙ merged_agree (λ j. option_map letters_of (get_or (take c xs) j None)) (λ j. option_map letters_of (get_or xs j None)) c (λ j lt. ap (option_map letters_of) (get_or-take c xs j None lt))
