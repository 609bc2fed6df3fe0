use Rattle.std.proofs.Common.{◌≡◌, ℕ, zero, suc, ◌≤◌, min, List, fold, get_or, length, take, refl, ap, ◌∙◌, arith, rules}
use Rattle.std.proofs.Math.Seq.{take-suc}
use Rattle.std.proofs.lemmas.Bool.Decides.{nat_tests}
use Rattle.std.proofs.lemmas.Iterator.{YieldsList-from_slice}
use Rattle.std.proofs.lemmas.Iterator.Consumers.{fold_from_yields_List}
use Rattle.std.proofs.lemmas.List.Sums.{fold_push}
use Rattle.std.specs.Ordering.{nat_cmp, ord_min}
use Rattle.meaning.specs.declared.numbers.Round.{Round}
use Rattle.crew.specs.Foreman.{least_of}
use Rattle.crew.proofs.foreman.Foreman.least_kept.Goals as goal

-- of two rounds the earlier
abbrev earlier : Round → Round → Round
earlier a b = ord_min (λ (x y : Round). nat_cmp x.0 y.0) a b

earlier_is : (a b : Round) → (earlier a b).0 ≡ min b.0 a.0
earlier_is a b = grind (arith, nat_tests)

-- the earliest of the first m of these, and of g
earliest : (g : Round) (xs : List Round) (d : Round) (m : ℕ) → m ≤ length xs → (fold earlier g (take m xs)).0 ≡ least_of g.0 m (λ j. (get_or xs j d).0)
earliest g xs d zero h = refl
earliest g xs d (suc m) h =
    let x : Round = get_or xs m d in
    ap (λ ys. (fold earlier g ys).0) (take-suc xs m d (omega arith))
    ∙ ap (λ (r : Round). r.0) (fold_push earlier g (take m xs) x)
    ∙ earlier_is (fold earlier g (take m xs)) x
    ∙ ap (min x.0) (earliest g xs d m (omega arith))

pub returns : goal.returns
returns c =
    let f = c.args.self.now in
    let folded = fold_from_yields_List _ earlier c.args.round c.fold.result c.fold.ensures.ran (YieldsList-from_slice (take f.workers f.kept) cc) (λ a x b q k. search rules) in
    ap (λ (r : Round). r.0) folded ∙ earliest c.args.round f.kept f.start f.workers (omega (arith, f.wide, f.many))
