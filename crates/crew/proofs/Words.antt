-- The bits of a word after one is set, and the word whose first m bits are all set.
use Rattle.std.proofs.Common.{◌≡◌, ℕ, ◌-◌, ◌*◌, ◌%◌, ◌^◌, ◌<◌, ◌||◌, eqb, sym, refl, ap, ◌∙◌, ⊎_elim, arith}
use lib.Bits.{bit_and, bit_or}
use Rattle.std.proofs.lemmas.Bool.{cases_eq, cases_lt, eq-eqb, ne_eqb, eqb-true}
use Rattle.std.proofs.lemmas.Bool.Decides.{same_from_decides, Decides-eqb, Decides-below_and}
use Rattle.std.proofs.lemmas.Nat.Bits.{bit_at_and, bit_at_ones, bit_at_ones_above, bit_at_set_same, bit_at_set_other, bit_at-lt, same_from_bits}
use Rattle.std.specs.Int.{bit_at, w64}
use Rattle.crew.specs.Job.{all_below}
use Rattle.crew.specs.Ready.{bit}

pub set_bit : (w i k : ℕ) → i < 64 → bit (bit_or w (1 * 2 ^ i % 2 ^ 64)) k ≡ (eqb k i || bit w k)
set_bit w i k h =
    let set : ℕ = bit_or w (1 * 2 ^ i % 2 ^ 64) in
    ⊎_elim
    (λ same. ap (λ d. eqb d 1) (ap (bit_at set) same ∙ bit_at_set_same w64 w i h) ∙ sym (ap (λ b. b || bit w k) (eq-eqb k i same)))
    (λ ne. ap (λ d. eqb d 1) (bit_at_set_other w64 w i h k ne) ∙ sym (ap (λ b. b || bit w k) (ne_eqb k i ne)))
    (cases_eq k i)

-- the first m bits are set where the word has all of the mask's
full_all : (w m : ℕ) → ((j : ℕ) → j < m → bit_at w j ≡ 1) → bit_and w (2 ^ m - 1) ≡ 2 ^ m - 1
full_all w m h =
    same_from_bits _ _ (λ i.
    ⊎_elim
    (λ lt. omega (arith, bit_at_and w (2 ^ m - 1) i, bit_at_ones m i lt, h i lt))
    (λ le. omega (arith, bit_at_and w (2 ^ m - 1) i, bit_at_ones_above m i le))
    (cases_lt i m))

all_full : (w m : ℕ) → bit_and w (2 ^ m - 1) ≡ 2 ^ m - 1 → (j : ℕ) → j < m → bit_at w j ≡ 1
all_full w m e j lt = omega (arith, ap (λ x. bit_at x j) e, bit_at_and w (2 ^ m - 1) j, bit_at_ones m j lt, bit_at-lt w j)

pub all_bits : (w m : ℕ) → eqb (bit_and w (2 ^ m - 1)) (2 ^ m - 1) ≡ all_below m (bit w)
all_bits w m =
    same_from_decides _ _ (
      (λ t. all_full w m (eqb-true _ _ t)),
      (λ h. eq-eqb _ _ (full_all w m h)),
    )
    (Decides-below_and (bit w) (λ k. bit_at w k ≡ 1) (λ n. all_below n (bit w)) (λ k. Decides-eqb (bit_at w k) 1) refl (λ _. refl) m)
