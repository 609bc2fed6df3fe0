-- What the plan that any mistake shows in means.
-- Assumes nothing.
use Rattle.std.specs.Prelude.{ℕ, ◌+◌, ◌/◌, ◌%◌, ◌^◌, true, cond, not, List, [], ◌∷◌, map, ◌==◌, nat_le, slice_index}
use Rattle.std.specs.List.{range_with_len}
use Rattle.meaning.specs.Meaning.{Sent, Output, Program}
use Rattle.plans.specs.Digest.{hashed, digest_of}
use Rattle.plans.specs.Numbers.{be4, be8}
use Rattle.plans.specs.declared.scramble.Scramble.{Scramble}

-- the word that is drawn from a digest under a number
unfoldable pub drawn : (h j : ℕ) → ℕ
drawn h j = hashed h (j ∷ [])

-- the 8 bytes of a word again and again: byte i, and the first k bytes
abbrev pub byte_at : (word i : ℕ) → ℕ
byte_at word i = slice_index (be8 word) (i % 8)

abbrev pub repeated : (word k : ℕ) → List ℕ
repeated word k = map (byte_at word) (range_with_len 0 k)

-- of n places: whom letters go to, a few of whom are not there
abbrev pub addressees : ℕ → ℕ
addressees n = n + n / 8 + 1

abbrev pub letter_from : (n word : ℕ) → Sent
letter_from n word = record { to = word / 2 ^ 32 % addressees n; bytes = repeated word (word / 2 ^ 24 % 65) }

-- mostly few letters, now and then up to 64
abbrev pub how_many : ℕ → ℕ
how_many t = cond (t / 65 % 8 == 0) (t % 65) (t % 4)

-- the first k letters of one whose digest is h
abbrev pub letters_from : (n h k : ℕ) → List Sent
letters_from n h k = map (λ j. letter_from n (drawn h j)) (range_with_len 0 k)

-- what a place whose digest is h comes to: in the last round and after it, and before
abbrev pub ending : (h : ℕ) → Output
ending h = record { state = be8 h; sends = []; rests = true }

abbrev pub going_on : (n h : ℕ) → Output
going_on n h = record {
  state = repeated h (drawn h 253 / 2 ^ 32 % 257);
  sends = letters_from n h (how_many (drawn h 254 / 2 ^ 32));
  rests = not (drawn h 252 / 2 ^ 32 % 4 == 0);
}

abbrev pub scrambling : Scramble → Program
scrambling p = record {
  first = be4;
  does = λ x. cond (nat_le p.last x.round) (ending (digest_of x)) (going_on p.places (digest_of x));
}
