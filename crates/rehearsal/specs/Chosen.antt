-- Which program a choice of a script is.
-- Assumes nothing.
use Rattle.std.specs.Prelude.{◌≡◌, ℕ, Bool, true, ◌&&◌, List, codes, nat_lt, nat_le}
use Rattle.meaning.specs.Meaning.{Program}
use Rattle.script.specs.declared.settings.Choice.{Choice}
use Rattle.script.specs.declared.settings.Choice.TheVariants.{Sum, Echo, Scramble, Grid}
use Rattle.plans.specs.Sum.{adding}
use Rattle.plans.specs.Echo.{keeping}
use Rattle.plans.specs.Scramble.{scrambling}
use Rattle.plans.specs.Grid.{spreading}
use Rattle.plans.specs.declared.sum.Sum.{Sum as Adding}
use Rattle.plans.specs.declared.echo.Echo.{Echo as Keeping}
use Rattle.plans.specs.declared.grid.Grid.{Grid as Spreading}

-- of so many places; a grid that is no place wide is none
abbrev pub IsChosen : (places : ℕ) → Choice → Program → Type 0
IsChosen n Sum q = (p : Adding) × (q ≡ adding p)
IsChosen n Echo q = (p : Keeping) × (q ≡ keeping p)
IsChosen n (Scramble last) q = q ≡ scrambling (record { places = n; last = last })
IsChosen n (Grid width last) q = (p : Spreading) × (p.width ≡ width) × (p.last ≡ last) × (q ≡ spreading p)

-- whether it is a plan at all: a grid is 1 to 1048576 places wide
abbrev pub is_plan : Choice → Bool
is_plan Sum = true
is_plan Echo = true
is_plan (Scramble last) = true
is_plan (Grid width last) = nat_lt 0 width && nat_le width 1048576

-- how it is called
abbrev pub name_of : Choice → List ℕ
name_of Sum = codes "sum"
name_of Echo = codes "echo"
name_of (Scramble last) = codes "scramble"
name_of (Grid width last) = codes "grid"
