use Rattle.std.proofs.Common.{◌≡◌, ℕ, zero, suc, ◌<◌, Bool, true, false, List, length, get_or, vec_items, sym, refl, rules, arith}
use borrow.Author.Tests.{tests}
use Rattle.std.specs.Bool.{MatchBool}
use Rattle.std.specs.List.{AllWithin, HoldsAt}
use Rattle.std.proofs.lemmas.Iterator.{cases_from_all, YieldsList-from_slice}
use Rattle.meaning.specs.Meaning.{all_rest}
use Rattle.meaning.proofs.Agreeing.{one_awake}
use Rattle.std.proofs.lemmas.Bool.{and_from}
use Rattle.rounds.proofs.standing.Standing.all_rest.Goals as goal

all_true : (n : ℕ) (f : ℕ → Bool) → ((k : ℕ) → k < n → f k ≡ true) → all_rest n f ≡ true
all_true zero f h = refl
all_true (suc n) f h = and_from (f n) (all_rest n f) (h n (omega arith)) (all_true n f (λ k lt. h k (omega arith)))

answers : (l : List Bool) (r : Bool) → MatchBool r (AllWithin (λ b. b ≡ true) l 0 (length l)) ((k : ℕ) × (k < length l) × HoldsAt (λ b. b ≡ false) l k) → r ≡ all_rest (length l) (λ v. get_or l v false)
answers l true h = sym (all_true (length l) (λ v. get_or l v false) (λ k lt. h k false (omega arith) lt))
answers l false h = sym (one_awake (length l) h.0 (λ v. get_or l v false) h.1 (h.2 false))

pub returns : goal.returns
returns c = answers (vec_items c.args.self.now.rests) c.all.result (cases_from_all _ _ _ (λ b. b ≡ true) (λ b. b ≡ false) c.all.ensures.ran (YieldsList-from_slice (vec_items c.args.self.now.rests) cc) (λ x q k. search (rules, tests)) (λ x q k. search (rules, tests)))
