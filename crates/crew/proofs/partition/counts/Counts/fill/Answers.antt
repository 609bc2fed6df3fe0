use Rattle.std.proofs.Common.{◌≡◌, ℕ, suc, ◌+◌, ◌<◌, true, List, [], ◌∷◌, ◌++◌, get_or, take, sym, refl, ap, ◌∙◌, subst, ⊎_elim, add-one, arith}
use Rattle.std.proofs.lemmas.List.{take_more}
use Rattle.std.proofs.lemmas.Bool.{cases_lt}
use Rattle.crew.specs.Shared.{nowhere, owner_from, stands}
use Rattle.crew.specs.declared.partition.Stretch.{Stretch}
use Rattle.crew.proofs.Owners.{owner_here, owner_before, stands_parts, stands_rise}
use Rattle.crew.proofs.partition.counts.Counts.fill.Goals as goal

pub loop-stretch-preserved : goal.loop-stretch-preserved
loop-stretch-preserved c =
    let l = c.loop-stretch in
    let ss : List Stretch = c.args.stretches.now in
    let i : ℕ = l.stretch-index in
    let s : Stretch = get_or ss i nowhere in
    let more = c.in_ok-resize.ensures in
    let front : take (i + 1) ss ≡ take i ss ++ s ∷ [] = take_more ss i nowhere c.loop-stretch-test.true in
    let fits = stands_parts c.args.self.places c.args.self.workers ss i (c.requires.each i c.loop-stretch-test.true) in (
      (λ v h.
          let here : v < s.first.0 = omega (arith, more.len) in
          ⊎_elim
          (λ old. more.by_index.0 v 0 here old ∙ l.invariant.0 v old)
          (λ new. more.by_index.1 v 0 refl new here ∙ sym (l.invariant.1 v new))
          (cases_lt v _)
          ∙ sym (ap (λ ts. owner_from 0 ts v) front ∙ owner_before 0 (take i ss) s v here)),
      (λ v h. ap (λ ts. owner_from 0 ts v) front ∙ owner_here 0 (take i ss) s v (omega (arith, more.len))),
      omega (arith, more.len, fits.0),
      (λ h.
          let at : stands c.args.self.places c.args.self.workers ss (suc i) ≡ true = ap (stands c.args.self.places c.args.self.workers ss) (sym (add-one i)) ∙ c.requires.each (i + 1) h in
          let up : s.first.0 < (get_or ss (i + 1) nowhere).first.0 = subst (λ k. s.first.0 < (get_or ss k nowhere).first.0) (sym (add-one i)) (stands_rise c.args.self.places c.args.self.workers ss i at) in
          omega (arith, more.len)),
    )
