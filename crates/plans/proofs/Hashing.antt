-- Digests, part by part.
use Rattle.std.proofs.Common.{◌≡◌, ℕ, List, ◌++◌, sym, ap, ◌∙◌}
use Rattle.std.proofs.lemmas.List.Sums.{fold-append}
use Rattle.plans.specs.Digest.{stirred, hashed}

-- the digest of xs, and from there on that of ys
pub hashed_then : (start h r : ℕ) (xs ys : List ℕ) → h ≡ hashed start xs → r ≡ hashed h ys → r ≡ hashed start (xs ++ ys)
hashed_then start h r xs ys first then = then ∙ ap (λ a. hashed a ys) first ∙ sym (fold-append stirred start xs ys)
