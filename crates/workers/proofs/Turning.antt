-- A round of a worker's places, as rounds has it and as a crew has it.
use Rattle.std.proofs.Common.{◌≡◌, ℕ, suc, Bool, List, [], ◌∷◌, ◌++◌, map, length, refl, ap, ◌∙◌, arith}
use Rattle.meaning.specs.Meaning.{Letter, Turn, turn}
use Rattle.rounds.specs.Sight.{input_from}
use Rattle.rounds.specs.Turns as R
use Rattle.crew.specs.Job.{Job}
use Rattle.crew.specs.Worker.{turns_of, sent_in, view_of_turns}

same_sent : (ts : List Turn) → R.sent_in ts ≡ sent_in ts
same_sent [] = refl
same_sent (t ∷ ts) = ap (λ l. t.sent ++ l) (same_sent ts)

module _ (b : Job) (r : ℕ) (post : List Letter) where
  same_turns : (ps : List ℕ) (ss : List (List ℕ)) (bs : List Bool) → R.turns_of b.places b.program r post ps ss bs ≡ turns_of b r post ps ss bs
  same_turns [] ss bs = refl
  same_turns (v ∷ ps) [] bs = refl
  same_turns (v ∷ ps) (s ∷ ss) [] = refl
  same_turns (v ∷ ps) (s ∷ ss) (e ∷ bs) = ap (λ l. turn b.places b.program (input_from r v s post) e ∷ l) (same_turns ps ss bs)

  pub same_view : (ps : List ℕ) (ss : List (List ℕ)) (bs : List Bool) → R.view_of_turns (R.turns_of b.places b.program r post ps ss bs) ≡ view_of_turns (turns_of b r post ps ss bs)
  same_view ps ss bs =
      ap R.view_of_turns (same_turns ps ss bs)
      ∙ (λ i. record { states = map (λ (t : Turn). t.state) (turns_of b r post ps ss bs); rests = map (λ (t : Turn). t.rests) (turns_of b r post ps ss bs); post = same_sent (turns_of b r post ps ss bs) i })

  pub turns_length : (ps : List ℕ) (ss : List (List ℕ)) (bs : List Bool) → length ss ≡ length ps → length bs ≡ length ps → length (turns_of b r post ps ss bs) ≡ length ps
  turns_length [] ss bs k t = refl
  turns_length (p ∷ ps) [] bs k t = absurd (omega arith)
  turns_length (p ∷ ps) (x ∷ ss) [] k t = absurd (omega arith)
  turns_length (p ∷ ps) (x ∷ ss) (y ∷ bs) k t = ap suc (turns_length ps ss bs (omega arith) (omega arith))
