use Rattle.std.proofs.Common.{◌≡◌, ℕ, ◌+◌, ◌*◌, ◌/◌, ◌<◌, ◌≤◌, sym, refl, ◌∙◌, subst, ⊎_elim, arith}
use Rattle.std.proofs.lemmas.Bool.{cases_lt, cases_eq}
use Rattle.crew.specs.Shared.{share_start}
use Rattle.crew.proofs.Owners.{share_rises}
use Rattle.crew.proofs.partition.counts.Counts.share_out.Goals as goal

pub loop-worker-preserved : goal.loop-worker-preserved
loop-worker-preserved c =
    let l = c.loop-worker in
    let n = c.args.self.places in
    let m = c.args.self.workers in
    let w : ℕ = l.worker in
    let more = c.in_ok-resize.ensures in
    let resized : (c.from.result + 1) * n / c.from-in-loop-worker.result ≡ share_start n m (w + 1) = (λ i. (c.from.ensures i + 1) * n / c.from-in-loop-worker.ensures i) in
    let long = more.len ∙ resized in
    let up : share_start n m w ≤ share_start n m (w + 1) = share_rises n m w (w + 1) c.args.self.some (omega arith) in (
      long,
      (λ v h.
          let here : v < share_start n m (w + 1) = omega (arith, long) in
          ⊎_elim
          (λ old. subst (λ x. x < m) (sym (more.by_index.0 v 0 (omega (arith, resized)) old)) (l.invariant.1 v old))
          (λ new. subst (λ x. x < m) (sym (more.by_index.1 v 0 refl new (omega (arith, resized)))) c.loop-worker-test.true)
          (cases_lt v _)),
      (λ u v h from to.
          ⊎_elim
          (λ same.
          let here : v < share_start n m (w + 1) = subst (λ k. v < share_start n m (k + 1)) same to in
          let start : share_start n m w ≤ v = subst (λ k. share_start n m k ≤ v) same from in
          more.by_index.1 v 0 refl (omega (arith, l.invariant.0)) (omega (arith, resized)) ∙ sym same)
          (λ ne.
          let below : u < w = omega arith in
          let end : share_start n m (u + 1) ≤ share_start n m w = share_rises n m (u + 1) w c.args.self.some (omega arith) in
          more.by_index.0 v 0 (omega (arith, resized)) (omega (arith, l.invariant.0)) ∙ l.invariant.2 u v below from to)
          (cases_eq u w)),
    )
