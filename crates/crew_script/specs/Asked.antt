-- What a good script asks for.
-- Assumes nothing.
use Rattle.std.specs.Prelude.{ℕ, List}
use Rattle.script.specs.declared.settings.Choice.{Choice}
use Rattle.crew_script.specs.declared.settings.Span.{Span}
use Rattle.crew_script.specs.declared.settings.Event.{Event}

pub data Players : Type 0 where
  lone : (rounds : ℕ) → Players
  crew : (workers : ℕ) → List Span → List Event → Players

pub record Asked : Type 0 where
  pub places : ℕ
  pub plan : Choice
  pub run : Players
