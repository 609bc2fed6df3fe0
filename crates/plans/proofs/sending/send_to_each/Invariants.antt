use Rattle.std.proofs.Common.{◌≡◌}
use Rattle.meaning.specs.Mail.{post_of, mailed}
use Rattle.plans.proofs.Mailing.{to_all}
use Rattle.plans.proofs.sending.send_to_each.Given as goal

abbrev pub invariant-loop-to : goal.invariant-loop-to
invariant-loop-to l = post_of l.out ≡ mailed (post_of l.initial.out) (to_all l.body l.yielded)
