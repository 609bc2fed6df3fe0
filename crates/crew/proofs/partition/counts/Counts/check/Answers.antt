use Rattle.std.proofs.Common.{◌≡◌, get_or, sym, refl, ap, ◌∙◌, inl}
use Rattle.crew.specs.Shared.{can_follow, nowhere, stands}
use Rattle.crew.proofs.partition.counts.Counts.check.Goals as goal
use Rattle.crew.proofs.partition.counts.Counts.check.Goals.{After-can_follow}

-- the test is the one of the place that the loop has come to
tested : (c : After-can_follow) → c.can_follow.result ≡ stands c.args.self.places c.args.self.workers c.args.stretches.now c.loop-index.index
tested c = c.can_follow.ensures ∙ ap (λ u. can_follow c.args.self.places c.args.self.workers u (get_or c.args.stretches.now c.loop-index.index nowhere)) c.loop-index.invariant.0

pub returns-then-not-can_follow : goal.returns-then-not-can_follow
returns-then-not-can_follow c = (c.loop-index.index, refl, inl (c.loop-index-test.true, sym (tested (goal.at.returns-then-not-can_follow c).After-can_follow) ∙ c.if-not-can_follow.true))
