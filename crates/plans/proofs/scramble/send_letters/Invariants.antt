use Rattle.std.proofs.Common.{◌≡◌}
use Rattle.meaning.specs.Mail.{post_of, mailed}
use Rattle.plans.specs.Scramble.{letters_from}
use Rattle.plans.proofs.scramble.send_letters.Given as goal

abbrev pub invariant-loop-j : goal.invariant-loop-j
invariant-loop-j l = post_of l.out ≡ mailed (post_of l.initial.out) (letters_from l.places l.h l.j)
