-- A word's bytes again and again.
use Rattle.std.specs.Prelude.{◌≡◌, ℕ, ◌+◌, ◌-◌, ◌*◌, ◌%◌, ◌<◌, ◌≤◌, ◌++◌, length, take, slice_index}
use Rattle.std.proofs.Common.{sym, ap, ◌∙◌, ⊎_elim, arith, length-append}
use Rattle.std.proofs.lemmas.List.FromFn.{length-map-range_with_len, get_or-map-range_with_len, take-map-range_with_len}
use Rattle.std.proofs.lemmas.List.{ext_get_or, get_or_append_left, get_or-append_right}
use Rattle.std.proofs.lemmas.Bool.{cases_lt}
use Rattle.plans.specs.Numbers.{be8}
use Rattle.plans.specs.Scramble.{byte_at, repeated}

pub length_repeated : (word n : ℕ) → length (repeated word n) ≡ n
length_repeated word n = length-map-range_with_len (byte_at word) 0 n

pub take_repeated : (word n k : ℕ) → k ≤ n → take k (repeated word n) ≡ repeated word k
take_repeated word n k h = take-map-range_with_len (byte_at word) 0 n k h

get_or_repeated : (word n k : ℕ) → k < n → slice_index (repeated word n) k ≡ byte_at word k
get_or_repeated word n k h = get_or-map-range_with_len (byte_at word) 0 n k k 0 h (omega arith)

-- once more
pub repeated_more : (word i : ℕ) → repeated word (i * 8) ++ be8 word ≡ repeated word ((i + 1) * 8)
repeated_more word i =
    let front = repeated word (i * 8) in
    let long = length_repeated word (i * 8) in
    ext_get_or 0 (front ++ be8 word) (repeated word ((i + 1) * 8))
    (omega (arith, length-append front (be8 word), long, length_repeated word ((i + 1) * 8)))
    (λ k inside.
    let below : k < (i + 1) * 8 = omega (arith, length-append front (be8 word), long) in
    ⊎_elim
    (λ lt. get_or_append_left front (be8 word) 0 k (omega (arith, long, lt)) ∙ get_or_repeated word (i * 8) k lt)
    (λ ge.
    let same : k - i * 8 ≡ k % 8 = omega (arith, below, ge) in
    get_or-append_right front (be8 word) (i * 8) k 0 long ge ∙ ap (λ m. slice_index (be8 word) m) same)
    (cases_lt k (i * 8))
    ∙ sym (get_or_repeated word ((i + 1) * 8) k below))
