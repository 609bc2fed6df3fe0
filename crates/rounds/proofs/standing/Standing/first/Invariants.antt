use Rattle.std.proofs.Common.{◌≡◌, false, map, vec_items}
use Rattle.packed.specs.Strings.{items}
use Rattle.rounds.specs.Yielding.{number}
use Rattle.rounds.proofs.standing.Standing.first.Given as goal

abbrev pub invariant-loop-place : goal.invariant-loop-place
invariant-loop-place g l = (items l.standing.states ≡ map (g.P.Plan.program l.plan).first (map number l.yielded)) × (vec_items l.standing.rests ≡ map (λ _. false) (map number l.yielded))
