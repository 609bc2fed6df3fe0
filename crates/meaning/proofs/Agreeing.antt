-- What a round makes of n places depends on what is there of them alone.
use Rattle.std.proofs.Common.{◌≡◌, ℕ, zero, suc, ◌<◌, ◌≤◌, Bool, false, ◌&&◌, [], ◌++◌, map, sym, refl, ap, ◌∙◌, subst, ⊎_elim, arith}
use Rattle.std.specs.List.{range_with_len}
use Rattle.std.proofs.lemmas.List.FromFn.{get_or-map-range_with_len, length-map-range_with_len}
use Rattle.std.proofs.lemmas.List.{ext_get_or}
use Rattle.std.proofs.lemmas.Bool.{and_left, and_right, cases_eq}
use Rattle.meaning.specs.Meaning.{Program, Turn, World, letters_for, turn, turn_at, sent_below, round, all_rest, is_over, none, seen}
use Rattle.meaning.specs.Laws.{Agree}

-- two functions that agree below n list alike
pub listed : {X : Type 0} (d : X) (f g : ℕ → X) (n : ℕ) → ((v : ℕ) → v < n → f v ≡ g v) → map f (range_with_len 0 n) ≡ map g (range_with_len 0 n)
listed d f g n e =
    ext_get_or d _ _
    (length-map-range_with_len f 0 n ∙ sym (length-map-range_with_len g 0 n))
    (λ k h.
    let b : k < n = omega (arith, length-map-range_with_len f 0 n) in
    get_or-map-range_with_len f 0 n k k d b (omega arith) ∙ e k b ∙ sym (get_or-map-range_with_len g 0 n k k d b (omega arith)))

module _ (n : ℕ) (q : Program) (r : ℕ) (a b : World) where
  pub turn_agrees : (v : ℕ) → a.state v ≡ b.state v → a.rests v ≡ b.rests v → letters_for v a.post ≡ letters_for v b.post → turn_at n q r a v ≡ turn_at n q r b v
  turn_agrees v s t p = λ i. turn n q (record { round = r; place = v; state = s i; letters = p i }) (t i)

  module _ (same : Agree n a b) where
    pub turns_agree : (v : ℕ) → v < n → turn_at n q r a v ≡ turn_at n q r b v
    turns_agree v h = turn_agrees v (same.states v h) (same.rests v h) (ap (letters_for v) same.post)

    pub sent_agrees : (c : ℕ) → c ≤ n → sent_below n q r a c ≡ sent_below n q r b c
    sent_agrees zero h = refl
    sent_agrees (suc c) h = λ i. sent_agrees c (let l : c ≤ n = omega arith in l) i ++ (turns_agree c h i).sent

    pub round_agrees : seen n (round n q r a) ≡ seen n (round n q r b)
    round_agrees = λ i. record {
      states = listed [] (λ v. (turn_at n q r a v).state) (λ v. (turn_at n q r b v).state) n (λ v h. ap (λ (t : Turn). t.state) (turns_agree v h)) i;
      rests = listed false (λ v. (turn_at n q r a v).rests) (λ v. (turn_at n q r b v).rests) n (λ v h. ap (λ (t : Turn). t.rests) (turns_agree v h)) i;
      post = sent_agrees n (let l : n ≤ n = omega arith in l) i;
    }

pub all_rest_agrees : (n : ℕ) (f g : ℕ → Bool) → ((v : ℕ) → v < n → f v ≡ g v) → all_rest n f ≡ all_rest n g
all_rest_agrees zero f g e = refl
all_rest_agrees (suc n) f g e = λ i. e n (let l : n < suc n = omega arith in l) i && all_rest_agrees n f g (λ v h. e v (omega arith)) i

pub over_agrees : (n : ℕ) (a b : World) → Agree n a b → is_over n a ≡ is_over n b
over_agrees n a b same = λ i. none (same.post i) && all_rest_agrees n a.rests b.rests same.rests i

-- one place that doesn't rest is enough
pub one_awake : (n v : ℕ) (f : ℕ → Bool) → v < n → f v ≡ false → all_rest n f ≡ false
one_awake zero v f h e = absurd (omega arith)
one_awake (suc n) v f h e =
    ⊎_elim
    (λ is. and_left (f n) (all_rest n f) (subst (λ u. f u ≡ false) is e))
    (λ ne. and_right (f n) (all_rest n f) (one_awake n v f (omega arith) e))
    (cases_eq v n)
