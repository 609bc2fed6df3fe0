-- What an outcome tells of its reasons, and what the reasons tell of the outcome.
-- Assumes nothing.
use Rattle.std.proofs.Common.{◌≡◌, Bool, true, false, cond, refl, arith}
use Rattle.std.proofs.lemmas.Bool.{true≢false, false≢true}
use Rattle.crew.specs.Outcomes.{Outcome, Taken, Refused, Reasons, outcome_number, judged, is_taken}
use Rattle.crew.specs.declared.outcome.Refusal.{Refusal}
use Rattle.crew.specs.declared.outcome.Refusal.TheVariants.{Malformed, Stale, Double, Foreign, NotReady, NoCheckpoint, UsedUp}

-- What is taken has no reason against it.
pub record Clear (y : Reasons) : Type 0 where
  pub malformed : y.malformed ≡ false
  pub stale : y.stale ≡ false
  pub double : y.double ≡ false
  pub foreign : y.foreign ≡ false
  pub unready : y.unready ≡ false
  pub missing : y.missing ≡ false
  pub full : y.full ≡ false

passed : (t : Bool) (y : Refusal) (o : Outcome) → is_taken (cond t (Refused y) o) ≡ true → (t ≡ false) × (is_taken o ≡ true)
passed true y o e = absurd (false≢true e)
passed false y o e = (refl, e)

pub clear : (y : Reasons) → is_taken (judged y) ≡ true → Clear y
clear y e =
    let seven : Outcome = cond y.full (Refused UsedUp) Taken in
    let six : Outcome = cond y.missing (Refused NoCheckpoint) seven in
    let five : Outcome = cond y.unready (Refused NotReady) six in
    let four : Outcome = cond y.foreign (Refused Foreign) five in
    let three : Outcome = cond y.double (Refused Double) four in
    let two : Outcome = cond y.stale (Refused Stale) three in
    let a = passed y.malformed Malformed two e in
    let b = passed y.stale Stale three a.1 in
    let c = passed y.double Double four b.1 in
    let d = passed y.foreign Foreign five c.1 in
    let f = passed y.unready NotReady six d.1 in
    let g = passed y.missing NoCheckpoint seven f.1 in
    let h = passed y.full UsedUp Taken g.1 in
    record { malformed = a.0; stale = b.0; double = c.0; foreign = d.0; unready = f.0; missing = g.0; full = h.0 }

-- and what has none is taken
pub judged_taken : (y : Reasons) → y.malformed ≡ false → y.stale ≡ false → y.double ≡ false → y.foreign ≡ false → y.unready ≡ false → y.missing ≡ false → y.full ≡ false → judged y ≡ Taken
judged_taken y a s d f u m l =
    λ t. cond (a t) (Refused Malformed) (cond (s t) (Refused Stale) (cond (d t) (Refused Double) (cond (f t) (Refused Foreign) (cond (u t) (Refused NotReady) (cond (m t) (Refused NoCheckpoint) (cond (l t) (Refused UsedUp) Taken))))))

pub judged_missing : (y : Reasons) → y.malformed ≡ false → y.stale ≡ false → y.double ≡ false → y.foreign ≡ false → y.unready ≡ false → y.missing ≡ true → judged y ≡ Refused NoCheckpoint
judged_missing y a s d f u m =
    λ t. cond (a t) (Refused Malformed) (cond (s t) (Refused Stale) (cond (d t) (Refused Double) (cond (f t) (Refused Foreign) (cond (u t) (Refused NotReady) (cond (m t) (Refused NoCheckpoint) (cond y.full (Refused UsedUp) Taken))))))

-- What is ready and has its checkpoint, unless it is malformed or stale, is not refused by 5 or 6.
pub not_lacking : (y : Reasons) → (y.malformed ≡ false → y.stale ≡ false → (y.unready ≡ false) × (y.missing ≡ false)) → (outcome_number (judged y) ≡ 5 → ⊥) × (outcome_number (judged y) ≡ 6 → ⊥)
not_lacking y h = go y.malformed y.stale y.double y.foreign y.unready y.missing y.full h
  where
    go : (m s d f u i l : Bool) → (m ≡ false → s ≡ false → (u ≡ false) × (i ≡ false)) →
        let n = outcome_number (judged (record { malformed = m; stale = s; double = d; foreign = f; unready = u; missing = i; full = l })) in (n ≡ 5 → ⊥) × (n ≡ 6 → ⊥)
    go true s d f u i l h = (λ e. omega arith, λ e. omega arith)
    go false true d f u i l h = (λ e. omega arith, λ e. omega arith)
    go false false true f u i l h = (λ e. omega arith, λ e. omega arith)
    go false false false true u i l h = (λ e. omega arith, λ e. omega arith)
    go false false false false true i l h = absurd (true≢false (h refl refl).0)
    go false false false false false true l h = absurd (true≢false (h refl refl).1)
    go false false false false false false true h = (λ e. omega arith, λ e. omega arith)
    go false false false false false false false h = (λ e. omega arith, λ e. omega arith)
