-- What stands of a run: its view is what the meaning says of its round.
use Rattle.std.proofs.Common.{◌≡◌, ℕ, zero, suc, ◌+◌, ◌-◌, ◌<◌, true, false, cond, [], sym, refl, ap, ◌∙◌, add-one, arith}
use Rattle.std.proofs.lemmas.List.FromFn.{get_or-map-range_with_len}
use Rattle.meaning.specs.Meaning.{Program, World, View, round, rounds, is_over, ends_from, seen, start}
use Rattle.meaning.specs.Laws.{Agree}
use Rattle.meaning.proofs.Agreeing.{round_agrees, over_agrees}
use Rattle.rounds.specs.Sight.{world_of}

-- a view taken for a world is the world, of the places that are there
pub seen_agrees : (n : ℕ) (w : World) → Agree n (world_of (seen n w)) w
seen_agrees n w = record {
  states = λ v h. get_or-map-range_with_len w.state 0 n v v [] h (omega arith);
  rests = λ v h. get_or-map-range_with_len w.rests 0 n v v false h (omega arith);
  post = refl;
}

module _ (n : ℕ) (q : Program) where
  pub steps : (r : ℕ) (s : View) → s ≡ seen n (rounds n q r) → seen n (round n q r (world_of s)) ≡ seen n (rounds n q (suc r))
  unfolding rounds
  steps r s e = ap (λ (x : View). seen n (round n q r (world_of x))) e ∙ round_agrees n q r (world_of (seen n (rounds n q r))) (rounds n q r) (seen_agrees n (rounds n q r))

  pub over_is : (r : ℕ) (s : View) → s ≡ seen n (rounds n q r) → is_over n (world_of s) ≡ is_over n (rounds n q r)
  over_is r s e = ap (λ (x : View). is_over n (world_of x)) e ∙ over_agrees n (world_of (seen n (rounds n q r))) (rounds n q r) (seen_agrees n (rounds n q r))

  -- where it is over the search ends
  pub ends_here : (r b : ℕ) → 0 < b → is_over n (rounds n q r) ≡ true → ends_from n q r b ≡ r
  unfolding ends_from
  ends_here r zero h e = absurd (omega arith)
  ends_here r (suc b) h e = ap (λ t. cond t r (ends_from n q (suc r) b)) e

  -- where it isn't it goes on
  pub ends_later : (r b : ℕ) → 0 < b → is_over n (rounds n q r) ≡ false → ends_from n q r b ≡ ends_from n q (r + 1) (b - 1)
  unfolding ends_from
  ends_later r zero h e = absurd (omega arith)
  ends_later r (suc b) h e = ap (λ t. cond t r (ends_from n q (suc r) b)) e ∙ (λ i. ends_from n q (sym (add-one r) i) ((let z : b ≡ suc b - 1 = omega arith in z) i))

  pub ends_now : (r b : ℕ) → b ≡ 0 → ends_from n q r b ≡ r
  unfolding ends_from
  ends_now r b e = ap (ends_from n q r) e

pub start_is : (n : ℕ) (q : Program) → seen n (start q) ≡ seen n (rounds n q 0)
unfolding rounds
start_is n q = refl
