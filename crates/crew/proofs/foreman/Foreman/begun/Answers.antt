use Rattle.std.proofs.Common.{true, false, eqb, refl}
use Rattle.crew.proofs.Pacing.{same_all}
use Rattle.std.proofs.lemmas.Nat.Bits.{bit_at-zero}
use Rattle.crew.proofs.foreman.Foreman.begun.Goals as goal

pub returns : goal.returns
returns c =
    let r = c.args.round in
    record {
      workers = refl;
      is = λ i. record {
        attempt = c.args.attempt.0;
        start = r.0;
        at = r.0;
        ready = λ j. eqb (bit_at-zero j i) 1;
        ending = true;
        over = false;
        noted = r.0;
        kept = λ j. (same_all 64 r j i).0;
        quiet = 0;
      };
    }
