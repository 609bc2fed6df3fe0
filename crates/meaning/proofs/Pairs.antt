-- Heads beside bodies: one more of each, and what stands where.
use Rattle.std.proofs.Common.{◌≡◌, ℕ, zero, suc, ◌<◌, List, [], ◌∷◌, ◌++◌, length, get_or, sym, refl, ap, arith}
use Rattle.meaning.specs.declared.letters.Head.{Head}
use Rattle.meaning.specs.Packets.{letter_of, paired, nobody, blank}

pub length_paired : (hs : List Head) (bs : List (List ℕ)) → length hs ≡ length bs → length (paired hs bs) ≡ length hs
length_paired [] bs e = refl
length_paired (h ∷ hs) [] e = sym e
length_paired (h ∷ hs) (b ∷ bs) e = ap suc (length_paired hs bs (omega arith))

pub paired_none : (hs : List Head) (bs : List (List ℕ)) → bs ≡ [] → paired hs bs ≡ []
paired_none [] bs e = refl
paired_none (h ∷ hs) bs e = ap (paired (h ∷ hs)) e

pub paired_push : (hs : List Head) (bs : List (List ℕ)) (h : Head) (b : List ℕ) → length hs ≡ length bs → paired (hs ++ h ∷ []) (bs ++ b ∷ []) ≡ paired hs bs ++ letter_of h b ∷ []
paired_push [] [] h b e = refl
paired_push [] (c ∷ bs) h b e = absurd (omega arith)
paired_push (g ∷ hs) [] h b e = absurd (omega arith)
paired_push (g ∷ hs) (c ∷ bs) h b e = ap (λ l. letter_of g c ∷ l) (paired_push hs bs h b (omega arith))

pub get_or_paired : (hs : List Head) (bs : List (List ℕ)) (k : ℕ) → length hs ≡ length bs → k < length hs → get_or (paired hs bs) k blank ≡ letter_of (get_or hs k nobody) (get_or bs k [])
get_or_paired [] bs k e h = absurd (omega arith)
get_or_paired (g ∷ hs) [] k e h = absurd (omega arith)
get_or_paired (g ∷ hs) (c ∷ bs) zero e h = refl
get_or_paired (g ∷ hs) (c ∷ bs) (suc k) e h = get_or_paired hs bs k (omega arith) (omega arith)
