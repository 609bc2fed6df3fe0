-- The foreman's state and notes as they are stored.
use Rattle.std.proofs.Common.{◌≡◌, ℕ, ◌+◌, ◌<◌, List, ◌∷◌, length, get_or, drop, replicate, ap, ◌∙◌, ⊎_elim, arith}
use Rattle.std.proofs.lemmas.List.{get_or-replicate, get_or_past, length-replicate, drop_more}
use Rattle.std.proofs.lemmas.Bool.{cases_lt}
use Rattle.crew.specs.declared.journal.Note.{Note}

-- a table filled with what is read past its end
pub same_all : {X : Type 0} (n : ℕ) (x : X) (j : ℕ) → get_or (replicate n x) j x ≡ x
same_all n x j =
    ⊎_elim
    (λ lt. get_or-replicate n j x x lt)
    (λ le. get_or_past (replicate n x) j x (omega (arith, length-replicate n x)))
    (cases_lt j n)

-- what is read of the notes that are left, where the next of them is known
pub read_next : {X : Type 0} (f : List Note → X) (notes : List Note) (i : ℕ) (d x : Note) → i < length notes → get_or notes i d ≡ x → f (drop i notes) ≡ f (x ∷ drop (i + 1) notes)
read_next f notes i d x h e = ap f (drop_more notes i d h) ∙ ap (λ y. f (y ∷ drop (i + 1) notes)) e
