-- What a tick of the foreman comes to; and so the hundred ticks.
-- Assumes nothing.
use Rattle.std.proofs.Common.{◌≡◌, ℕ, ◌+◌, ◌<◌, Bool, true, false, cond, ltb, [], ◌∷◌, Some, refl, ap}
use Rattle.std.proofs.lemmas.Bool.{lt-ltb, le-ltb, lt-leb}
use Rattle.crew.specs.Journals.{Began}
use Rattle.crew.specs.Messages.{to_all}
use Rattle.crew.specs.Outcomes.{judged, only_full}
use Rattle.crew.specs.Worker.{attempt_cap}
use Rattle.crew.specs.Foreman.{Foreman, Reply, begun, begins, is_last, with_quiet, waited, ticked, saying, patience}
use Rattle.runs.specs.Promise.{HundredTicks}

-- no attempt is left
abbrev pub stays : (m : ℕ) → Foreman → Reply
stays m f = record { state = Some f; appends = []; says = to_all m (saying f); outcome = judged only_full }

-- the next attempt, from the noted round
abbrev pub anew : (m : ℕ) → Foreman → Reply
anew m f = begins m f f.noted (Began (f.attempt + 1) ∷ [])

-- one tick more with nothing taken
abbrev pub quieter : Foreman → Foreman
quieter f = with_quiet f (f.quiet + 1)

-- A tick is one of four: it is over and said so again, it waits, no attempt is left, or it begins anew.
module _ (m : ℕ) (f : Foreman) where
  -- by whether it is over, whether patience lasts, and whether the attempt is the last that there may be
  abbrev tick : (over patient last : Bool) → Reply
  tick o p l = cond o (waited m f) (cond p (waited m (quieter f)) (cond l (stays m f) (anew m f)))

  pub ticked_any : (P : Reply → Type 0) → P (waited m f) → P (waited m (quieter f)) → P (stays m f) → P (anew m f) → P (ticked m f)
  ticked_any P a b c d = go f.over (ltb (f.quiet + 1) patience) (is_last f)
    where
      go : (o p l : Bool) → P (tick o p l)
      go true p l = a
      go false true l = b
      go false false true = c
      go false false false = d

  pub ticked_over : f.over ≡ true → ticked m f ≡ waited m f
  ticked_over over = λ t. tick (over t) (ltb (f.quiet + 1) patience) (is_last f)

  pub ticked_waits : f.over ≡ false → ltb (f.quiet + 1) patience ≡ true → ticked m f ≡ waited m (quieter f)
  ticked_waits going early = λ t. tick (going t) (early t) (is_last f)

  pub ticked_anew : f.over ≡ false → ltb (f.quiet + 1) patience ≡ false → f.attempt + 1 < attempt_cap → ticked m f ≡ anew m f
  ticked_anew going late room = λ t. tick (going t) (late t) (lt-leb attempt_cap (f.attempt + 1) room t)

pub hundred_ticks : HundredTicks
hundred_ticks m f going room = (
  (λ early. (quieter f, ap (λ (y : Reply). y.state) (ticked_waits m f going (lt-ltb (f.quiet + 1) patience early)), refl, refl, going)),
  (λ late. (begun (f.attempt + 1) f.noted, ap (λ (y : Reply). y.state) (ticked_anew m f going (le-ltb (f.quiet + 1) patience late) room), refl, refl)),
)
