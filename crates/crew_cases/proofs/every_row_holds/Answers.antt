use Rattle.std.proofs.Common.{◌≡◌, ℕ, List, [], ◌∷◌, ◌++◌, map, refl}
use Rattle.std.specs.List.{AllByRecursion}
use Rattle.cases.specs.Rows as Alone
use Rattle.cases.specs.Table as Alone'
use Rattle.crew_cases.specs.Rows.{Row, alone, Holds}
use Rattle.crew_cases.specs.Table.{crews}
use Rattle.crew_cases.proofs.every_row_holds.Goals as goal

-- what holds of each case of one machine, and of each of the rows behind them
behind : (xs : List Alone.Row) (ys : List Row) → AllByRecursion Alone.Holds xs → AllByRecursion Holds ys → AllByRecursion Holds (map alone xs ++ ys)
behind [] ys a b = b
behind (x ∷ xs) ys a b = (a.0, behind xs ys a.1 b)

-- a number and a list that are computed
at : (k : ℕ) → k ≡ k
at k = refl

list : (ks : List ℕ) → ks ≡ ks
list ks = refl

crews_hold : AllByRecursion Holds crews
crews_hold = (
  (refl, (refl, ((refl, (refl, tt)), (refl, tt)))),
  (
    (refl, (refl, ((refl, (refl, tt)), (refl, tt)))),
    (
      ((at 0, at 1), (at 2, (at 0, tt))),
      (
        (at 4, tt),
        (
          ((at 0, at 12), ((at 0, at 12), (list (11 ∷ 1 ∷ []), (list (2 ∷ []), tt)))),
          (
            ((at 1, at 8, at 8), ((at 1, at 8), ((at 1, at 8), (list (7 ∷ 1 ∷ []), tt)))),
            (
              ((at 1, at 12), ((at 1, at 12), (list (11 ∷ 1 ∷ []), (list (2 ∷ []), tt)))),
              (
                ((at 0, at 15), ((at 0, at 16), tt)),
                (((at 1, at 8, at 8), ((at 1, at 8), ((at 1, at 8), tt))), tt),
              ),
            ),
          ),
        ),
      ),
    ),
  ),
)

pub returns : goal.returns
returns c = behind Alone'.table crews c.every_row_holds.ensures crews_hold
