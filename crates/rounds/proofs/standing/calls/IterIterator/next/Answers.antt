use Rattle.std.proofs.Common.{◌≡◌, ℕ, suc, ◌≤◌, List, [], ◌∷◌, length, slice_index_or, refl, ap, ◌∙◌, subst, arith}
use Rattle.std.specs.List.{zip}
use Rattle.std.specs.Slice.Iter.{iter_rest}
use Rattle.meaning.specs.Caps.{state_cap}
use Rattle.rounds.specs.Sight.{Capped}
use Rattle.rounds.proofs.standing.calls.IterIterator.next.Goals as goal

first_capped : (ss ts : List (List ℕ)) (s : List ℕ) → ss ≡ s ∷ ts → Capped ss → length s ≤ state_cap
first_capped ss ts s e all = subst (λ x. length x ≤ state_cap) (ap (λ l. slice_index_or l 0 []) e) (all 0)

later_capped : (ss ts : List (List ℕ)) (s : List ℕ) → ss ≡ s ∷ ts → Capped ss → Capped ts
later_capped ss ts s e all k = subst (λ x. length x ≤ state_cap) (ap (λ l. slice_index_or l (suc k) []) e) (all (suc k))

zip_gone : {A B : Type 0} (xs : List A) (ys : List B) → length ys ≡ 0 → zip xs ys ≡ []
zip_gone [] ys h = refl
zip_gone (x ∷ xs) [] h = refl
zip_gone (x ∷ xs) (y ∷ ys) h = absurd (omega (arith, h))

pub invariant_of-self-2 : goal.invariant_of-self-2
invariant_of-self-2 c = record { fits = later_capped _ _ _ c.in_ok-state.ensures.steps c.args.self.now.fits }

pub returns-in_err-rests-clause-steps : goal.returns-in_err-rests-clause-steps
returns-in_err-rests-clause-steps c = rw c.from_residual-in_err-rests.ensures (zip_gone _ _ c.in_err-rests.ensures.steps.0, zip_gone _ _ (ap (λ it. length (iter_rest it)) c.in_err-rests.ensures.steps.1 ∙ c.in_err-rests.ensures.steps.0))

pub invariant_of-result : goal.invariant_of-result
invariant_of-result c = record { fits = first_capped _ _ _ c.in_ok-state.ensures.steps c.args.self.now.fits }
