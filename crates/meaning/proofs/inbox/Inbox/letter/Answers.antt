use Rattle.std.proofs.Common.{◌≡◌, ℕ, ◌<◌, ◌≤◌, List, length, get_or, Some, None, vec_items, Option, sym, ap, ◌∙◌, subst, arith, MatchOption}
use Rattle.packed.specs.Strings.{items}
use Rattle.meaning.specs.declared.letters.Received.{Received}
use Rattle.meaning.specs.Mail.{received}
use Rattle.meaning.specs.Meaning.{Letter, letters_for}
use Rattle.meaning.specs.Packets.{letters_of, blank, received_of}
use Rattle.meaning.proofs.Finding.{all_inside, length_letters, letter_is}
use Rattle.meaning.proofs.inbox.Inbox.letter.Goals as goal

pub returns-in_err-number : goal.returns-in_err-number
returns-in_err-number c =
    let l = c.args.self.now.letters in
    let mine = letters_for c.args.place.0 (received c.args.self.now) in
    subst (λ r. MatchOption r (length mine ≤ c.args.k) (λ x. (c.args.k < length mine) × (received_of x ≡ get_or mine c.args.k blank))) (sym c.from_residual.ensures)
    (omega (arith, length_letters c.args.place.0 (vec_items l.heads) (items l.bodies) l.even, ap length c.part.ensures, c.in_err-number.ensures.lookup.3))

-- what is found at the number is the letter
found : (r : Option Received) (ls mine : List Letter) (j k : ℕ) → j < length ls → k < length mine → get_or mine k blank ≡ get_or ls j blank →
    MatchOption r (length ls ≤ j) (λ x. (j < length ls) × (received_of x ≡ get_or ls j blank)) → MatchOption r (length mine ≤ k) (λ x. (k < length mine) × (received_of x ≡ get_or mine k blank))
found None ls mine j k inside h e none = absurd (omega arith)
found (Some x) ls mine j k inside h e some = (h, some.1 ∙ sym e)

pub returns : goal.returns
returns c =
    let l = c.args.self.now.letters in
    let v = c.args.place.0 in
    let k = c.args.k in
    let hs = vec_items l.heads in
    let part = c.part.result.now in
    let at = c.in_ok-number.ensures.lookup in
    let j = c.in_ok-number.field-0.now in
    let h : k < length part = at.3.0 in
    found c.get-2.result (letters_of l) (letters_for v (letters_of l)) j k
    (omega (arith, at.1, all_inside v hs (items l.bodies) l.even part c.part.ensures k j h))
    (omega (arith, h, ap length c.part.ensures, length_letters v hs (items l.bodies) l.even))
    (letter_is v hs (items l.bodies) l.even part c.part.ensures k j h at.1)
    c.get-2.ensures
