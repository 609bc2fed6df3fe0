use Rattle.std.specs.Prelude.{ℕ, ◌/◌, ◌%◌, ◌^◌, ◌≤◌, Bool, true, false, cond, List, [], ◌∷◌, length, ◌==◌}
use Rattle.std.proofs.Common.{arith}
use Rattle.std.specs.List.{range_with_len, AllByRecursion}
use Rattle.std.proofs.lemmas.List.FromFn.{length-map-range_with_len}
use Rattle.std.proofs.ByRecursion.{All-map}
use Rattle.meaning.specs.Meaning.{Sent, Fits}
use Rattle.plans.specs.Scramble.{drawn, how_many, letter_from, ending, going_on}
use Rattle.plans.specs.Repeating.{length_repeated}

pub few : (t : ℕ) → how_many t ≤ 64
few t = go (t / 65 % 8 == 0)
  where
    go : (b : Bool) → cond b (t % 65) (t % 4) ≤ 64
    go true = omega arith
    go false = omega arith

pub each : {X : Type 0} (P : X → Type 0) → ((x : X) → P x) → (xs : List X) → AllByRecursion P xs
each P all [] = tt
each P all (x ∷ xs) = (all x, each P all xs)

pub fits_either : (over : Bool) (n h : ℕ) → Fits (cond over (ending h) (going_on n h))
fits_either true n h = record { state = omega arith; count = omega arith; each = tt }
fits_either false n h =
    let letter : ℕ → Sent = λ j. letter_from n (drawn h j) in
    let many = how_many (drawn h 254 / 2 ^ 32) in
    record {
      state = omega (arith, length_repeated h (drawn h 253 / 2 ^ 32 % 257));
      count = omega (arith, length-map-range_with_len letter 0 many, few (drawn h 254 / 2 ^ 32));
      each =
          All-map (λ (s : Sent). length s.bytes ≤ 64) letter (range_with_len 0 many)
          (each (λ j. length (letter j).bytes ≤ 64) (λ j. omega (arith, length_repeated (drawn h j) (drawn h j / 2 ^ 24 % 65))) (range_with_len 0 many));
    }
