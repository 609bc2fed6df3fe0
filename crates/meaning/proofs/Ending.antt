-- Once over it stays so, and it isn't over while anything is left to do.
use Rattle.std.proofs.Common.{◌≡◌, ℕ, zero, suc, ◌+◌, ◌<◌, ◌≤◌, Bool, true, false, cond, ◌&&◌, List, [], ◌∷◌, ◌++◌, sym, refl, ap, ◌∙◌, subst, ⊎_elim, add-zero, add-suc, arith}
use Rattle.std.proofs.lemmas.Bool.{and_parts, and_right, cases_eq, true≢false}
use Rattle.meaning.specs.Meaning.{Program, World, letters_for, none, input_at, acted, turn_at, sent_below, round, rounds, all_rest, is_over, seen}
use Rattle.meaning.specs.Laws.{Agree, OverStays, NotWhileAwake}
use Rattle.meaning.proofs.Agreeing.{listed, over_agrees, one_awake}

pub not_while_awake : NotWhileAwake
not_while_awake n v w h e = and_right (none w.post) (all_rest n w.rests) (one_awake n v w.rests h e)

none_left : {X : Type 0} (xs : List X) → none xs ≡ true → xs ≡ []
none_left [] e = refl
none_left (x ∷ xs) e = absurd (true≢false (sym e))

each_rests : (n v : ℕ) (f : ℕ → Bool) → all_rest n f ≡ true → v < n → f v ≡ true
each_rests zero v f e h = absurd (omega arith)
each_rests (suc n) v f e h =
    let p = and_parts (f n) (all_rest n f) e in
    ⊎_elim (λ is. subst (λ u. f u ≡ true) (sym is) p.0) (λ ne. each_rests n v f p.1 (omega arith)) (cases_eq v n)

-- one more round of a world that is over changes nothing
module _ (n : ℕ) (q : Program) (r : ℕ) (w : World) (over : is_over n w ≡ true) where
  empty : w.post ≡ []
  empty = none_left w.post (and_parts (none w.post) (all_rest n w.rests) over).0

  rested : (v : ℕ) → v < n → w.rests v ≡ true
  rested v h = each_rests n v w.rests (and_parts (none w.post) (all_rest n w.rests) over).1 h

  idles : (v : ℕ) → v < n → turn_at n q r w v ≡ record { state = w.state v; rests = true; sent = [] }
  idles v h = ap (λ b. cond b (record { state = w.state v; rests = true; sent = [] }) (acted n q (input_at r w v))) (λ i. rested v h i && none (letters_for v (empty i)))

  nothing : (c : ℕ) → c ≤ n → sent_below n q r w c ≡ []
  nothing zero h = refl
  nothing (suc c) h = λ i. nothing c (let l : c ≤ n = omega arith in l) i ++ (idles c h i).sent

  pub still : Agree n (round n q r w) w
  still = record {
    states = λ v h. λ i. (idles v h i).state;
    rests = λ v h. (λ i. (idles v h i).rests) ∙ sym (rested v h);
    post = nothing n (omega arith) ∙ sym empty;
  }

pub seen_agree : (n : ℕ) (a b : World) → Agree n a b → seen n a ≡ seen n b
seen_agree n a b same = λ i. record { states = listed [] a.state b.state n same.states i; rests = listed false a.rests b.rests n same.rests i; post = same.post i }

pub over_stays : OverStays
unfolding rounds
over_stays n q r zero e = (ap (λ k. seen n (rounds n q k)) (add-zero r), ap (λ k. is_over n (rounds n q k)) (add-zero r) ∙ e)
over_stays n q r (suc k) e = go (over_stays n q r k e)
  where
    go : (seen n (rounds n q (r + k)) ≡ seen n (rounds n q r)) × (is_over n (rounds n q (r + k)) ≡ true) → (seen n (rounds n q (r + suc k)) ≡ seen n (rounds n q r)) × (is_over n (rounds n q (r + suc k)) ≡ true)
    go before =
        let same : Agree n (round n q (r + k) (rounds n q (r + k))) (rounds n q (r + k)) = still n q (r + k) (rounds n q (r + k)) before.1 in (
          ap (λ j. seen n (rounds n q j)) (add-suc r k) ∙ seen_agree n (round n q (r + k) (rounds n q (r + k))) (rounds n q (r + k)) same ∙ before.0,
          ap (λ j. is_over n (rounds n q j)) (add-suc r k) ∙ over_agrees n (round n q (r + k) (rounds n q (r + k))) (rounds n q (r + k)) same ∙ before.1,
        )
