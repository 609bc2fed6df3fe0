-- What the plan that keeps what it has means.
-- Assumes nothing.
use Rattle.std.specs.Prelude.{true, []}
use Rattle.meaning.specs.Meaning.{Program}
use Rattle.plans.specs.declared.echo.Echo.{Echo}

abbrev pub keeping : Echo → Program
keeping p = record { first = λ v. []; does = λ x. record { state = x.state; sends = []; rests = true } }
