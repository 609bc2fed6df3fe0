use Rattle.std.proofs.Common.{ℕ, ◌<◌, ◌≤◌, Bool, true, false, List, [], length, subst, sym, ⊎_elim, ◌↔◌, refl, rules, arith}
use borrow.Author.Tests.{tests, clash}
use Rattle.std.specs.Bool.{MatchBool, IsTrue}
use Rattle.std.specs.List.{AllWithin, HoldsAt}
use Rattle.std.proofs.lemmas.Bool.{cases_lt}
use Rattle.std.proofs.lemmas.Iterator.{cases_from_all}
use Rattle.std.proofs.lemmas.Iterator.Consumers.{YieldsList-from_first}
use Rattle.std.proofs.lemmas.List.{get_or_past}
use Rattle.packed.specs.Left.{strings_left}
use Rattle.packed.specs.Strings.{items}
use Rattle.meaning.specs.Caps.{state_cap}
use Rattle.rounds.specs.Sight.{Capped}
use Rattle.rounds.proofs.standing.calls.all_fit.Goals as goal

all_capped : (ss : List (List ℕ)) → AllWithin (λ s. length s ≤ state_cap) ss 0 (length ss) → Capped ss
all_capped ss h k =
    ⊎_elim
    (λ lt. h k [] (omega arith) lt)
    (λ le. subst (λ s. length s ≤ state_cap) (sym (get_or_past ss k [] le)) (omega arith))
    (cases_lt k (length ss))

answers : (ss : List (List ℕ)) (r : Bool) → MatchBool r (AllWithin (λ s. length s ≤ state_cap) ss 0 (length ss)) ((k : ℕ) × (k < length ss) × HoldsAt (λ s. state_cap < length s) ss k) → IsTrue r ↔ Capped ss
answers ss true h = ((λ _. all_capped ss h), (λ _. refl))
answers ss false h = ((λ e. absurd (clash e)), (λ all. absurd (let a = all h.0 in let b = h.2 [] in omega arith)))

pub returns : goal.returns
returns c = answers (items c.args.states.now) c.all.result (cases_from_all c.all.new.self _ c.all.result (λ s. length s ≤ state_cap) (λ s. state_cap < length s) c.all.ensures.ran (YieldsList-from_first (λ y. y.now) strings_left (items c.args.states.now) c.iter.ensures) (λ x q k. search (rules, tests)) (λ x q k. search (rules, tests)))
