-- Letters sent one after another.
use Rattle.std.proofs.Common.{◌≡◌, ℕ, ◌-◌, Bool, true, false, cond, ltb, List, [], ◌∷◌, ◌++◌, length, map, Some, None, Option, sym, refl, ap, ◌∙◌, append_assoc, append-nil, arith, length-append}
use Rattle.std.specs.List.{filter_map}
use Rattle.meaning.specs.Mail.{Post, mailed}
use Rattle.meaning.specs.Meaning.{Letter, Sent, posted}
use Rattle.plans.specs.Sending.{to_each}

posted_append : (n v : ℕ) (xs ys : List Sent) → posted n v (xs ++ ys) ≡ posted n v xs ++ posted n v ys
posted_append n v [] ys = refl
posted_append n v (x ∷ xs) ys = go (posted n v (xs ++ ys)) (posted_append n v xs ys) (ltb x.to n)
  where
    one : Letter
    one = record { from = v; to = x.to; bytes = x.bytes }

    go : (zs : List Letter) → zs ≡ posted n v xs ++ posted n v ys → (b : Bool) → cond b (one ∷ zs) zs ≡ cond b (one ∷ posted n v xs) (posted n v xs) ++ posted n v ys
    go zs e true = ap (λ l. one ∷ l) e
    go zs e false = e

-- these, and then those
mailed_append : (o : Post) (xs ys : List Sent) → mailed (mailed o xs) ys ≡ mailed o (xs ++ ys)
mailed_append o xs ys =
    let left : o.left - length xs - length ys ≡ o.left - length (xs ++ ys) = omega (arith, length-append xs ys) in
    let letters : (o.letters ++ posted o.places o.from xs) ++ posted o.places o.from ys ≡ o.letters ++ posted o.places o.from (xs ++ ys) =
    append_assoc o.letters (posted o.places o.from xs) (posted o.places o.from ys) ∙ ap (λ l. o.letters ++ l) (sym (posted_append o.places o.from xs ys)) in
    λ i. record { places = o.places; from = o.from; left = left i; letters = letters i }

-- where xs were sent, and then ys
pub mailed_more : (o p q : Post) (xs ys zs : List Sent) → p ≡ mailed o xs → q ≡ mailed p ys → xs ++ ys ≡ zs → q ≡ mailed o zs
mailed_more o p q xs ys zs first then e = then ∙ ap (λ (m : Post). mailed m ys) first ∙ mailed_append o xs ys ∙ ap (mailed o) e

-- the same letter to these places
abbrev pub to_all : List ℕ → List ℕ → List Sent
to_all bytes vs = map (λ v. record { to = v; bytes = bytes }) vs

-- where they are those of the places that there are
pub to_all_there : (bytes : List ℕ) (places : List (Option ℕ)) → to_all bytes (filter_map (λ p. p) places) ≡ to_each bytes places
to_all_there bytes [] = refl
to_all_there bytes (None ∷ places) = to_all_there bytes places
to_all_there bytes (Some v ∷ places) = ap (λ l. record { to = v; bytes = bytes } ∷ l) (to_all_there bytes places)

-- nothing sent
pub mailed_none : (o : Post) → o ≡ mailed o []
mailed_none o =
    let left : o.left ≡ o.left - 0 = omega arith in
    λ i. record { places = o.places; from = o.from; left = left i; letters = sym (append-nil o.letters) i }
