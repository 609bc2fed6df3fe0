-- Parts of letters, with one letter more.
use Rattle.std.proofs.Common.{◌≡◌, ℕ, ◌<◌, Bool, true, false, cond, eqb, List, [], ◌∷◌, ◌++◌, length, get_or, set, replicate, vec_items, sym, ap, ◌∙◌, ⊎_elim, arith, length-set}
use Rattle.std.proofs.lemmas.List.FromFn.{length-map-range_with_len, get_or-map-range_with_len, fill_by_all}
use Rattle.std.proofs.lemmas.List.Elements.{filter-append}
use Rattle.std.proofs.lemmas.List.{append-nil, get_or_past, get_or-replicate, get_or-set_same, get_or-set_other, length-replicate}
use Rattle.std.proofs.lemmas.Bool.{cases_eq, cases_lt, eq-eqb, ne_eqb}
use Rattle.meaning.specs.Meaning.{Letter}
use Rattle.crew.specs.Shared.{owner_of}
use Rattle.crew.specs.declared.partition.Partition.{Partition}
use Rattle.batches.specs.Sharing.{part_of, parts_of}

-- a place that isn't there counts as the first worker's, so every letter has a part
pub owner_below : (p : Partition) (v : ℕ) → owner_of p v < p.workers
owner_below p v =
    ⊎_elim
    (λ lt. p.owned v lt)
    (λ le. omega (arith, get_or_past (vec_items p.owners) v 0 (omega (arith, p.long, p.owners.ok.0)), p.some))
    (cases_lt v p.places)

-- of no letter
pub parts_none : (owner : ℕ → ℕ) (m : ℕ) → replicate m [] ≡ parts_of owner m []
parts_none owner m = fill_by_all (λ j. part_of owner j []) (replicate m []) m [] (length-replicate m []) (λ k h. get_or-replicate m k [] [] h)

module _ (owner : ℕ → ℕ) (m : ℕ) (ls : List Letter) (x : Letter) where
  more : (j : ℕ) (b : Bool) → eqb j (owner x.to) ≡ b → part_of owner j (ls ++ x ∷ []) ≡ part_of owner j ls ++ cond b (x ∷ []) []
  more j b t =
      filter-append (λ (l : Letter). eqb j (owner l.to)) ls (x ∷ [])
      ∙ ap (λ c. part_of owner j ls ++ cond c (x ∷ []) []) t

  -- the letter goes to its owner's part
  pub parts_more : (o : ℕ) → o ≡ owner x.to → o < m → set (parts_of owner m ls) o (part_of owner o ls ++ x ∷ []) ≡ parts_of owner m (ls ++ x ∷ [])
  parts_more o is lt =
      fill_by_all (λ j. part_of owner j (ls ++ x ∷ [])) _ m []
      (length-set old o new ∙ long)
      (λ j jm.
      ⊎_elim
      (λ same.
      ap (λ n. get_or (set old o new) n []) same
      ∙ get_or-set_same old o new [] (omega (arith, long))
      ∙ sym (more o true (eq-eqb o (owner x.to) is))
      ∙ ap (λ n. part_of owner n (ls ++ x ∷ [])) (sym same))
      (λ other.
      get_or-set_other old o j new [] other
      ∙ get_or-map-range_with_len (λ n. part_of owner n ls) 0 m j j [] jm (omega arith)
      ∙ sym (append-nil (part_of owner j ls))
      ∙ sym (more j false (ne_eqb j (owner x.to) (λ q. other (q ∙ sym is)))))
      (cases_eq j o))
    where
      old : List (List Letter)
      old = parts_of owner m ls

      new : List Letter
      new = part_of owner o ls ++ x ∷ []

      long : length (parts_of owner m ls) ≡ m
      long = length-map-range_with_len (λ j. part_of owner j ls) 0 m
