use Rattle.std.proofs.Common.{◌≡◌, ℕ, List, Option, Some, is_ok, subst, sym, refl}
use Rattle.std.specs.Option.{IfSome}
use Rattle.std.proofs.lemmas.Result.{on_ok_weaker}
use Rattle.meaning.specs.Meaning.{Program}
use Rattle.plans.specs.Grid.{spreading}
use Rattle.plans.specs.declared.grid.Grid.{Grid as Spreading}
use Rattle.script.specs.declared.settings.Choice.{Choice}
use Rattle.script.specs.declared.settings.Choice.TheVariants.{Grid}
use Rattle.rehearsal.specs.Chosen.{IsChosen, name_of}
use Rattle.rehearsal.proofs.named.with_plan_once.Goals as goal

-- what is said of the chosen program by its name
asked : (n : ℕ) (k j : Choice) (said : Program → List ℕ → Type 0) (q : Program) → k ≡ j → IsChosen n j q → said q (name_of j) → (x : Program) × IsChosen n k x × said x (name_of k)
asked n k j said q is chosen answered = subst (λ l. (x : Program) × IsChosen n l x × said x (name_of l)) (sym is) (q, chosen, answered)

-- a grid that was made is the one that was chosen
grid_chosen : (n width last : ℕ) (made : Option Spreading) (p : Spreading) → IfSome made (λ (x : Spreading). (x.width ≡ width) × (x.last ≡ last)) → made ≡ Some p → IsChosen n (Grid width last) (spreading p)
grid_chosen n width last made p same is =
    let kept = subst (λ o. IfSome o (λ (x : Spreading). (x.width ≡ width) × (x.last ≡ last))) is same in
    (p, kept.0, kept.1, refl)

pub returns-in-Sum-clause-asked : goal.returns-in-Sum-clause-asked
returns-in-Sum-clause-asked g c = λ _.
    asked c.args.places c.args.choice _ (λ x name. g.A.PlayerOnce.Answered c.args.player x name (is_ok c.play.result)) _ c.in-Sum.is (_, refl) c.play.ensures.answered

pub returns-in-Echo-clause-asked : goal.returns-in-Echo-clause-asked
returns-in-Echo-clause-asked g c = λ _.
    asked c.args.places c.args.choice _ (λ x name. g.A.PlayerOnce.Answered c.args.player x name (is_ok c.play-in-Echo.result)) _ c.in-Echo.is (_, refl) c.play-in-Echo.ensures.answered

pub returns-in-Scramble-clause-asked : goal.returns-in-Scramble-clause-asked
returns-in-Scramble-clause-asked g c = λ _.
    asked c.args.places c.args.choice _ (λ x name. g.A.PlayerOnce.Answered c.args.player x name (is_ok c.play-in-Scramble.result)) _ c.in-Scramble.is refl c.play-in-Scramble.ensures.answered

pub returns-in_ok-plan-in-Grid-clause-asked : goal.returns-in_ok-plan-in-Grid-clause-asked
returns-in_ok-plan-in-Grid-clause-asked g c = λ _.
    let chosen = grid_chosen c.args.places c.in-Grid.width c.in-Grid.last c.new.result c.in_ok-plan-in-Grid.plan c.new.ensures.some c.in_ok-plan-in-Grid.ensures in
    asked c.args.places c.args.choice _ (λ x name. g.A.PlayerOnce.Answered c.args.player x name (is_ok c.play-in-Grid.result)) _ c.in-Grid.is chosen c.play-in-Grid.ensures.answered

pub returns-in_ok-plan-in-Grid-clause-played : goal.returns-in_ok-plan-in-Grid-clause-played
returns-in_ok-plan-in-Grid-clause-played g c =
    let p = c.in_ok-plan-in-Grid.plan in
    let chosen = grid_chosen c.args.places c.in-Grid.width c.in-Grid.last c.new.result p c.new.ensures.some c.in_ok-plan-in-Grid.ensures in
    on_ok_weaker c.play-in-Grid.result (λ played. (spreading p, subst (λ k. IsChosen c.args.places k (spreading p)) (sym c.in-Grid.is) chosen, played)) c.play-in-Grid.ensures.played
