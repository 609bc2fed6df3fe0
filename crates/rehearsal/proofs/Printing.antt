-- What is printed, a place at a time.
use Rattle.std.proofs.Common.{◌≡◌, ℕ, ◌+◌, [], ◌∷◌, ◌++◌, map, append_assoc, append-nil, sym, ap, ◌∙◌, arith}
use Rattle.std.specs.List.{concat, range_with_len}
use Rattle.std.proofs.lemmas.List.FromFn.{map-range_with_len_more}
use Rattle.std.proofs.lemmas.List.Folds.{concat-append}
use Rattle.meaning.specs.Meaning.{Program, World, rounds, seen}
use Rattle.meaning.specs.Laws.{Agree}
use Rattle.meaning.proofs.Agreeing.{listed}
use Rattle.script.specs.Output.{head_text, line_text}
use Rattle.rounds.specs.declared.alone.Alone.{Alone}
use Rattle.rounds.specs.Run.{Stands, view_of}
use Rattle.rounds.specs.Sight.{world_of}
use Rattle.rounds.proofs.Running.{seen_agrees}
use Rattle.rehearsal.specs.Printed.{place_text, printed}

-- one place more
pub place_more : (r v : ℕ) (w : World) → printed v r w ++ place_text w v ≡ printed (v + 1) r w
place_more r v w =
    append_assoc (head_text r) (concat (map (place_text w) (range_with_len 0 v))) (place_text w v)
    ∙ ap (λ l. head_text r ++ l)
    (ap (λ l. concat (map (place_text w) (range_with_len 0 v)) ++ l) (sym (append-nil (place_text w v)))
    ∙ sym (concat-append (map (place_text w) (range_with_len 0 v)) (place_text w v ∷ []))
    ∙ ap concat (sym (map-range_with_len_more (place_text w) 0 v v (omega arith))))

-- worlds that agree print alike
printed_agrees : (n r : ℕ) (a b : World) → Agree n a b → printed n r a ≡ printed n r b
printed_agrees n r a b same = ap (λ l. head_text r ++ concat l) (listed [] (place_text a) (place_text b) n (λ v h. λ i. line_text v (same.rests v h i) (same.states v h i)))

pub prints_what_is_meant : (n : ℕ) (q : Program) (a : Alone) → Stands n q a → printed a.places a.round.0 (world_of (view_of a)) ≡ printed n a.round.0 (rounds n q a.round.0)
prints_what_is_meant n q a s =
    (λ i. printed (s.places i) a.round.0 (world_of (s.view i)))
    ∙ printed_agrees n a.round.0 (world_of (seen n (rounds n q a.round.0))) (rounds n q a.round.0) (seen_agrees n (rounds n q a.round.0))
