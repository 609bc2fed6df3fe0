-- What holds of each of the first slots, by their numbers.
use Rattle.std.proofs.Common.{◌≡◌, ℕ, zero, suc, ◌≤◌, Bool, true, false, ◌&&◌, List, get_or, length, take, sym, refl, ap, ◌∙◌, add-one, arith}
use Rattle.std.specs.List.{list_all}
use Rattle.std.proofs.lemmas.List.Folds.{list_all_more}
use Rattle.crew.specs.Job.{all_below}

and_turned : (a b : Bool) → (a && b) ≡ (b && a)
and_turned true true = refl
and_turned true false = refl
and_turned false true = refl
and_turned false false = refl

pub front_below : {X : Type 0} (p : X → Bool) (f : ℕ → Bool) (xs : List X) (d : X) → ((j : ℕ) → p (get_or xs j d) ≡ f j) → (c : ℕ) → c ≤ length xs → list_all p (take c xs) ≡ all_below c f
front_below p f xs d each zero h = refl
front_below p f xs d each (suc c) h =
    ap (λ n. list_all p (take n xs)) (sym (add-one c))
    ∙ list_all_more p xs c d (omega arith)
    ∙ (λ i. front_below p f xs d each c (omega arith) i && each c i)
    ∙ and_turned (all_below c f) (f c)
