use Rattle.std.proofs.Common.{◌≡◌, map}
use Rattle.meaning.specs.Mail.{received}
use Rattle.rounds.specs.Yielding.{number}
use Rattle.rounds.specs.Standing.{held_of}
use Rattle.rounds.specs.Turns.{turn_from, view_of_turns}
use Rattle.rounds.specs.Work.{worked_of, places_of}
use Rattle.rounds.proofs.worked.Worked.work.Given as goal

abbrev pub invariant-loop-place : goal.invariant-loop-place
invariant-loop-place g l = (places_of l.self ≡ places_of l.fn.self) × (worked_of l.self ≡ view_of_turns (map (turn_from (places_of l.fn.self) (g.P.Plan.program l.plan) l.round.0 (received l.inbox)) (map (λ x. (number x.0, held_of x.1)) l.yielded)))
