-- Judging letters one after the other.
use Rattle.std.proofs.Common.{◌≡◌, Bool, true, false, leb, ◌&&◌, List, [], ◌∷◌, Some, None, Option, MatchOption, Bor, inl, inr, subst, refl, sym, ap, ◌∙◌, arith}
use Rattle.std.specs.Fn.{CalledAtTwo}
use Rattle.std.specs.Iterator.{AlwaysYields, YieldsThen}
use Rattle.std.specs.Iterator.Order.{OrderTurn, ChecksNeighbours}
use Rattle.std.specs.List.{FoldsTo, list_all}
use Rattle.std.proofs.lemmas.Bool.{le-leb}
use denote.Param.Members.{Mut}
use Rattle.meaning.specs.Meaning.{Letter}
use Rattle.crew.specs.Worker.{all_letters, rising_from}

pub all_are : (f : Letter → Bool) (ls : List Letter) → list_all f ls ≡ all_letters f ls
all_are f [] = refl
all_are f (l ∷ ls) = ap (λ b. f l && b) (all_are f ls)

module _ {S A F : Type 0} (steps : S → Option A → S → Type 0) (v : A → Letter) (g : Mut F (Bor A × (Bor A × Unit {0})) Bool) (f : F) (calls : (x y : A) (b : Bool) (q : F) → CalledAtTwo g f x y b q → (q ≡ f) × (b ≡ leb (v x).from (v y).from)) where
  -- of a letter and those after it, f answered true at each and the next until it ended or it answered false
  walk : (r : Bool) (xs : List A) (o : Option A) (x : A) (s u : S) (q : F × A) (ls : List Letter) → AlwaysYields steps v s ls → YieldsThen steps s xs o u → FoldsTo {P = F × A} (OrderTurn g) (f, x) xs q
      → MatchOption o (r ≡ true) (λ y. (r ≡ false) × ((h : F) × CalledAtTwo g q.0 q.1 y false h)) → r ≡ rising_from (v x).from ls
  walk r [] None x s u q [] all then folds ends = ends
  walk r [] None x s u q (l ∷ ls) all then folds ends = absurd (all.0 u (subst (λ t. steps t None u) (sym then.1) then.2))
  walk r [] (Some y) x s u q [] all then folds ends = absurd (all y u (subst (λ t. steps t (Some y) u) (sym then.1) then.2))
  walk r [] (Some y) x s u q (l ∷ ls) all then folds ends =
      let at : v y ≡ l = (all.1 y u (subst (λ t. steps t (Some y) u) (sym then.1) then.2)).0 in
      let answered = (calls x y false ends.1.0 (subst (λ (p : F × A). CalledAtTwo g p.0 p.1 y false ends.1.0) (sym folds) ends.1.1)).1 in
      ends.0 ∙ ap (λ b. b && rising_from l.from ls) (answered ∙ ap (λ (z : Letter). leb (v x).from z.from) at)
  walk r (y ∷ xs) o x s u q [] all then folds ends = absurd (all y then.1.0 then.1.1)
  walk r (y ∷ xs) o x s u q (l ∷ ls) all then folds ends =
      let step = all.1 y then.1.0 then.1.1 in
      let turn = folds.1 in
      let call = calls x y true folds.0.0 turn.0 in
      let same : folds.0 ≡ (f, y) = λ i. (call.0 i, turn.1 i) in
      walk r xs o y then.1.0 u q ls step.1 (then.0, then.1.2, then.2) (subst (λ (p : F × A). FoldsTo {P = F × A} (OrderTurn g) p xs q) same folds.2) ends
      ∙ ap (λ (z : Letter). rising_from z.from ls) step.0
      ∙ ap (λ b. b && rising_from l.from ls) (call.1 ∙ ap (λ (z : Letter). leb (v x).from z.from) step.0)

  pub neighbours : (r : Bool) (s : S) (ls : List Letter) → AlwaysYields steps v s ls → ChecksNeighbours g steps s f r → r ≡ rising_from 0 ls
  neighbours r s [] all (inl h) = h.1
  neighbours r s (l ∷ ls) all (inl h) = absurd (all.0 h.0.0 (subst (λ t. steps t None h.0.0) (sym h.0.1.1) h.0.1.2))
  neighbours r s [] all (inr h) = absurd (all h.0 h.5.1.0 h.5.1.1)
  neighbours r s (l ∷ ls) all (inr h) =
      let step = all.1 h.0 h.5.1.0 h.5.1.1 in
      walk r h.1 h.2 h.0 h.5.1.0 h.3 h.4 ls step.1 (h.5.0, h.5.1.2, h.5.2) h.6 h.7
      ∙ ap (λ (z : Letter). rising_from z.from ls) step.0
      ∙ ap (λ b. b && rising_from l.from ls) (sym (le-leb 0 l.from (omega arith)))
