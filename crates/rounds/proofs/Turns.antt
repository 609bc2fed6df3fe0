-- The turns of some places, and of all.
use Rattle.std.proofs.Common.{◌≡◌, ℕ, zero, suc, Bool, false, List, [], ◌∷◌, ◌++◌, map, length, get_or, sym, refl, ap, ◌∙◌, add-one, zero-add, arith}
use Rattle.std.specs.List.{range_with_len, zip}
use Rattle.std.proofs.lemmas.List.{append-nil, append_assoc, map_push}
use Rattle.std.proofs.lemmas.List.FromFn.{fill_by_all, map-range_with_len_more, length-range_with_len, get_or-range_with_len}
use Rattle.std.proofs.lemmas.Slice.Zip.{length-zip, get_or-zip}
use Rattle.meaning.specs.Meaning.{Program, World, Turn, View, round, turn_at, sent_below, seen}
use Rattle.rounds.specs.Sight.{world_of, added}
use Rattle.rounds.specs.Turns.{turn_from, turns_of, sent_in, view_of_turns}

pub map_map : {A B C : Type 0} (f : B → C) (g : A → B) (xs : List A) → map f (map g xs) ≡ map (λ x. f (g x)) xs
map_map f g [] = refl
map_map f g (x ∷ xs) = ap (λ l. f (g x) ∷ l) (map_map f g xs)

pub map_same : {A : Type 0} (xs : List A) → map (λ x. x) xs ≡ xs
map_same [] = refl
map_same (x ∷ xs) = ap (λ l. x ∷ l) (map_same xs)

sent_push : (ts : List Turn) (t : Turn) → sent_in (ts ++ t ∷ []) ≡ sent_in ts ++ t.sent
sent_push [] t = append-nil t.sent
sent_push (x ∷ ts) t = ap (λ l. x.sent ++ l) (sent_push ts t) ∙ sym (append_assoc x.sent (sent_in ts) t.sent)

view_push : (ts : List Turn) (t : Turn) → view_of_turns (ts ++ t ∷ []) ≡ added (view_of_turns ts) t
view_push ts t = λ i. record { states = map_push (λ (x : Turn). x.state) ts t i; rests = map_push (λ (x : Turn). x.rests) ts t i; post = sent_push ts t i }

-- one place more
pub turn_more : {A B : Type 0} (f : B → Turn) (g : A → B) (xs : List A) (x : A) → view_of_turns (map f (map g (xs ++ x ∷ []))) ≡ added (view_of_turns (map f (map g xs))) (f (g x))
turn_more f g xs x = ap view_of_turns (ap (map f) (map_push g xs x) ∙ map_push f (map g xs) (g x)) ∙ view_push (map f (map g xs)) (f (g x))

module _ (n : ℕ) (q : Program) (r : ℕ) where
  sent_by_all : (w : World) (c : ℕ) → sent_in (map (turn_at n q r w) (range_with_len 0 c)) ≡ sent_below n q r w c
  sent_by_all w zero = refl
  sent_by_all w (suc c) =
      ap (λ k. sent_in (map (turn_at n q r w) (range_with_len 0 k))) (sym (add-one c))
      ∙ ap sent_in (map-range_with_len_more (turn_at n q r w) 0 c c (omega arith))
      ∙ sent_push (map (turn_at n q r w) (range_with_len 0 c)) (turn_at n q r w c)
      ∙ ap (λ l. l ++ (turn_at n q r w c).sent) (sent_by_all w c)

  view_of_all : (w : World) → view_of_turns (map (turn_at n q r w) (range_with_len 0 n)) ≡ seen n (round n q r w)
  view_of_all w = λ i. record {
    states = map_map (λ (t : Turn). t.state) (turn_at n q r w) (range_with_len 0 n) i;
    rests = map_map (λ (t : Turn). t.rests) (turn_at n q r w) (range_with_len 0 n) i;
    post = sent_by_all w n i;
  }

  -- what all places hold, by number
  by_number : (ss : List (List ℕ)) (bs : List Bool) → length ss ≡ n → length bs ≡ n → zip (range_with_len 0 n) (zip ss bs) ≡ map (λ v. (v, (get_or ss v [], get_or bs v false))) (range_with_len 0 n)
  by_number ss bs known told =
      let long : length (zip ss bs) ≡ n = omega (arith, length-zip ss bs) in
      fill_by_all (λ v. (v, (get_or ss v [], get_or bs v false))) (zip (range_with_len 0 n) (zip ss bs)) n (0, ([], false))
      (omega (arith, length-zip (range_with_len 0 n) (zip ss bs), length-range_with_len 0 n))
      (λ k lt.
      get_or-zip (range_with_len 0 n) (zip ss bs) k (0, ([], false)) (omega (arith, length-range_with_len 0 n)) (omega arith)
      ∙ (λ i. ((get_or-range_with_len 0 n k 0 lt ∙ zero-add k) i, get_or-zip ss bs k ([], false) (omega arith) (omega arith) i)))

  -- the turns of all places are the round
  pub all_turns : (s : View) → length s.states ≡ n → length s.rests ≡ n → view_of_turns (turns_of n q r s.post (range_with_len 0 n) s.states s.rests) ≡ seen n (round n q r (world_of s))
  all_turns s known told =
      ap view_of_turns
      (ap (map (turn_from n q r s.post)) (by_number s.states s.rests known told)
      ∙ map_map (turn_from n q r s.post) (λ v. (v, (get_or s.states v [], get_or s.rests v false))) (range_with_len 0 n))
      ∙ view_of_all (world_of s)
