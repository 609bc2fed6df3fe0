-- The first of the lines that are left.
use Rattle.std.proofs.Common.{◌≡◌, ℕ, ◌+◌, ◌-◌, ◌<◌, ◌≤◌, Bool, true, false, cond, ltb, List, [], ◌∷◌, map, length, take, drop, refl, sym, ap, ◌∙◌, arith, length-drop}
use Rattle.std.proofs.lemmas.List.{drop-drop, length-take-le, take_rest}
use Rattle.std.proofs.lemmas.Bool.{le-leb, lt-leb, ltb-true, ltb-false}
use Rattle.std.specs.List.{position_or_len}
use Rattle.script.specs.declared.lines.Position.{Position}
use Rattle.script.specs.Lines.{left_from, placed}
use Rattle.script.specs.Text.{is_newline, lines_of}
use Rattle.script.proofs.Splitting.{parts_last, parts_next}

abbrev pub at : (n i j : ℕ) → Position
at n i j = record { line = n; start = i; end = j }

-- line n from place i on, as code cuts
module _ (text : List ℕ) (n i : ℕ) (inside : i ≤ length text) where
  abbrev pub rest : List ℕ
  rest = take (length text - i) (drop i text)

  rest_is : rest ≡ drop i text
  rest_is = take_rest text i

  long : length rest ≡ length text - i
  long = ap length rest_is ∙ length-drop i text

  pub line_last : position_or_len is_newline rest ≡ length rest → placed n i (lines_of (drop i text)) ≡ (at n i (length text), rest) ∷ []
  line_last end =
      ap (λ l. placed n i (lines_of l)) (sym rest_is)
      ∙ ap (placed n i) (parts_last is_newline rest end)
      ∙ ap (λ k. (at n i k, rest) ∷ []) (let e : i + length rest ≡ length text = omega (arith, long, inside) in e)

  pub line_next : (k : ℕ) → position_or_len is_newline rest ≡ k → k < length rest →
      placed n i (lines_of (drop i text)) ≡ (at n i (i + k), take (i + k - i) (drop i text)) ∷ placed (n + 1) (i + k + 1) (lines_of (drop (i + k + 1) text))
  line_next k end some =
      ap (placed n i) (parts_next is_newline (drop i text) k (ap (position_or_len is_newline) (sym rest_is) ∙ end) (omega (arith, some, ap length rest_is)))
      ∙ (λ j. (at n i (i + short j), take (same j) (drop i text)) ∷ placed (n + 1) (i + short j + 1) (lines_of (behind j)))
    where
      short : length (take k (drop i text)) ≡ k
      short = length-take-le k (drop i text) (omega (arith, some, ap length rest_is))

      same : k ≡ i + k - i
      same = omega arith

      behind : drop (k + 1) (drop i text) ≡ drop (i + k + 1) text
      behind = drop-drop (k + 1) i text ∙ ap (λ m. drop m text) (let e : i + (k + 1) ≡ i + k + 1 = omega arith in e)

  past : left_from text (n + 1) (length text + 1) ≡ []
  past = ap (λ b. cond b (placed (n + 1) (length text + 1) (lines_of (drop (length text + 1) text))) []) (lt-leb (length text + 1) (length text) (omega arith))

  there : (j : ℕ) (m : ℕ) → j ≤ length text → left_from text m j ≡ placed m j (lines_of (drop j text))
  there j m h = ap (λ b. cond b (placed m j (lines_of (drop j text))) []) (le-leb j (length text) h)

  -- the first of them, up to the first newline, and those behind it
  pub line_step : (k : ℕ) → k ≡ position_or_len is_newline rest → k ≤ length rest →
      left_from text n i ≡ (at n i (i + k), take (i + k - i) (drop i text)) ∷ left_from text (n + 1) (i + k + 1)
  line_step k end within = there i n inside ∙ go (ltb k (length rest)) refl
    where
      go : (b : Bool) → ltb k (length rest) ≡ b → placed n i (lines_of (drop i text)) ≡ (at n i (i + k), take (i + k - i) (drop i text)) ∷ left_from text (n + 1) (i + k + 1)
      go true is =
          let some = ltb-true k (length rest) is in
          line_next k (sym end) some
          ∙ ap (λ ls. (at n i (i + k), take (i + k - i) (drop i text)) ∷ ls) (sym (there (i + k + 1) (n + 1) (omega (arith, some, long))))
      go false is =
          line_last (sym end ∙ all)
          ∙ (λ j. (at n i (whole j), take (same j) (drop i text)) ∷ sym past j)
          ∙ ap (λ m. (at n i (i + k), take (i + k - i) (drop i text)) ∷ left_from text (n + 1) (m + 1)) whole
        where
          all : k ≡ length rest
          all = omega (arith, within, ltb-false k (length rest) is)

          whole : length text ≡ i + k
          whole = omega (arith, all, long, inside)

          same : length text - i ≡ i + k - i
          same = omega (arith, all, long, inside)

-- what is found in lines, wherever these lie
pub map_placed : {X : Type 0} (f : List ℕ → X) (n i : ℕ) (ls : List (List ℕ)) → map (λ l. f l.1) (placed n i ls) ≡ map f ls
map_placed f n i [] = refl
map_placed f n i (l ∷ ls) = ap (λ xs. f l ∷ xs) (map_placed f (n + 1) (i + length l + 1) ls)
