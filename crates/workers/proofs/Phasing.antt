-- A worker in a round.
use Rattle.std.proofs.Common.{◌≡◌, true, false, ◌⊎◌, ⊎_elim, ap}
use Rattle.workers.specs.Phases.{is_in, is_over}
use Rattle.workers.specs.declared.phase.Phase.{Phase}
use Rattle.workers.specs.declared.phase.Phase.TheVariants.{Idle, Worked}

-- in a round, worked or not
pub going_in : (p : Phase) → (p ≡ Idle) ⊎ (p ≡ Worked) → is_in p ≡ true
going_in p h = ⊎_elim (λ e. ap is_in e) (λ e. ap is_in e) h

pub going_on : (p : Phase) → (p ≡ Idle) ⊎ (p ≡ Worked) → is_over p ≡ false
going_on p h = ⊎_elim (λ e. ap is_over e) (λ e. ap is_over e) h
