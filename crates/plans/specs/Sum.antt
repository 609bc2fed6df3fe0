-- What the plan that adds up means.
-- Assumes nothing.
use Rattle.std.specs.Prelude.{◌+◌, true, cond, [], ◌==◌}
use Rattle.meaning.specs.Mail.{one_to}
use Rattle.meaning.specs.Meaning.{Program}
use Rattle.plans.specs.Numbers.{be4, number_of, total_of}
use Rattle.plans.specs.declared.sum.Sum.{Sum}

-- In round 0 each place sends its number to place 0; what comes is added to the state, mod 2^32.
abbrev pub adding : Sum → Program
adding p = record {
  first = λ v. be4 0;
  does = λ x. record {
    state = be4 (number_of x.state + total_of x.letters);
    sends = cond (x.round == 0) (one_to 0 (be4 x.place)) [];
    rests = true;
  };
}
