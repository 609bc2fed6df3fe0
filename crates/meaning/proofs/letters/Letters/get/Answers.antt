use Rattle.std.proofs.Common.{◌≡◌, ◌<◌, ◌≤◌, None, length, vec_items, sym, subst, ◌∙◌, arith, MatchOption, get_or}
use Rattle.std.proofs.lemmas.List.{get_or_read}
use Rattle.packed.specs.Strings.{items}
use Rattle.meaning.specs.Packets.{blank, letter_of, letters_of, nobody, received_of}
use Rattle.meaning.proofs.Pairs.{length_paired, get_or_paired}
use Rattle.meaning.proofs.letters.Letters.get.Goals as goal

pub returns-in_err-bytes : goal.returns-in_err-bytes
returns-in_err-bytes c =
    let s = c.args.self.now in
    let gone : c.from_residual.result ≡ None = grind arith in
    subst (λ r. MatchOption r (length (letters_of s) ≤ c.args.k) (λ x. (c.args.k < length (letters_of s)) × (received_of x ≡ get_or (letters_of s) c.args.k blank))) (sym gone)
    (omega (arith, c.in_err-bytes.ensures, length_paired (vec_items s.heads) (items s.bodies) s.even, s.even))

pub returns : goal.returns
returns c =
    let s = c.args.self.now in
    let k = c.args.k in
    let h : k < length (vec_items s.heads) = omega (arith, c.in_ok-bytes.ensures.0, s.even) in (
      omega (arith, h, length_paired (vec_items s.heads) (items s.bodies) s.even),
      (λ i. letter_of (get_or_read (vec_items s.heads) k c.index.result.now h c.index.ensures nobody i) (c.in_ok-bytes.ensures.1 i))
          ∙ sym (get_or_paired (vec_items s.heads) (items s.bodies) k s.even h),
    )
