use Rattle.std.proofs.Common.{ℕ, ◌+◌, [], ◌∷◌, sym, ap, ◌∙◌, arith}
use Rattle.std.proofs.lemmas.List.FromFn.{length-map-range_with_len, map-range_with_len_more}
use Rattle.meaning.specs.Mail.{Post, post_of, mailed}
use Rattle.meaning.specs.Meaning.{Sent}
use Rattle.plans.specs.Scramble.{drawn, letter_from, letters_from}
use Rattle.plans.proofs.Mailing.{mailed_more}
use Rattle.plans.proofs.scramble.send_letters.Goals as goal

pub send_letter-requires : goal.send_letter-requires
send_letter-requires c =
    let letter : ℕ → Sent = λ i. letter_from c.args.places (drawn c.args.h i) in
    omega (arith, ap (λ (o : Post). o.left) c.loop-j.invariant, length-map-range_with_len letter 0 c.loop-j.j)

pub loop-j-preserved : goal.loop-j-preserved
loop-j-preserved c =
    let n = c.args.places in
    let h = c.args.h in
    let j = c.loop-j.j in
    let letter : ℕ → Sent = λ i. letter_from n (drawn h i) in
    mailed_more (post_of c.args.out.now) (post_of c.loop-j.out) (post_of c.send_letter.new.out)
    (letters_from n h j) (letter j ∷ []) (letters_from n h (j + 1))
    c.loop-j.invariant
    (c.send_letter.ensures ∙ ap (λ word. mailed (post_of c.loop-j.out) (letter_from n word ∷ [])) c.draw.ensures)
    (sym (map-range_with_len_more letter 0 j j (omega arith)))
