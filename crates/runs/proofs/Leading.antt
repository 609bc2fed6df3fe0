-- What a program does with its crew is a run: each event keeps that some run leads here.
-- Assumes nothing.
use Rattle.std.proofs.Common.{◌≡◌, ℕ, ◌<◌, Bool, true, false, cond, eqb, ltb, leb, List, [], ◌∷◌, ◌++◌, length, take, drop, Some, None, refl, ap, subst, append-nil}
use mathlib.Core.Logic.{∥∥₁_elim, ∥∥₁_prop}
use mathlib.Core.Bool.{Bool-set}
use mathlib.Core.List.{is_set}
use mathlib.Core.HLevel.{×_prop}
use native.Mathlib.Nat.{ℕ_set}
use Rattle.std.proofs.lemmas.Bool.{cond_both, eqb-true, ltb-true}
use Rattle.crew.specs.Job.{Job, Proper, meant, share_of}
use Rattle.crew.specs.Messages.{Parcel, foreman_line}
use Rattle.crew.specs.Worker as W
use Rattle.runs.specs.World as world
use Rattle.runs.specs.World.{Call, Open, Take, Tick, Work, Heard, Reach, start, then}
use Rattle.runs.specs.Crew.{Crew, fresh, with_said, Spoken, Led, with_underway, effect_at, pace_at, worker_acts, foreman_acts, acts, worker_falls, foreman_falls, crashed, brought_up, ticked, worked, handed, gave_of, gave, doubled_of, doubled, lost, behind, delayed}
use Rattle.runs.specs.Promise.{TrueWorker}
use Rattle.runs.proofs.Truth.{as_if_one}
use Rattle.runs.proofs.Said.{spoken_later, spoken_now, spoken_both, spoken_take, spoken_drop}

-- CALLS

module _ (b : Job) where
  -- what holds of a history holds of some history
  led_on : (s t : Crew) → ((ps : List Parcel) → Spoken ps s.underway → Reach b (with_said s ps) → (qs : List Parcel) × Spoken qs t.underway × Reach b (with_said t qs)) → Led b s → Led b t
  led_on s t f l = ∥∥₁_elim l ∥∥₁_prop (λ h. ∣ f h.0 h.1 h.2 ∣₁)

  -- A call of a machine on what was said to it, with a part of what was said left under way.
  led_acts : (s : Crew) (j : ℕ) (c : Call) (ps : List Parcel) →
      ((said : List Parcel) → Spoken said s.underway → Heard (with_said s said) j c × Spoken said ps) → Led b s → Led b (acts b j c ps s)
  led_acts s j c ps ok l =
      cond_both (eqb j foreman_line) (foreman_acts b c ps s) (cond (ltb j b.workers) (worker_acts b j c ps s) (with_underway s ps)) (Led b)
      (λ e. led_on s (foreman_acts b c ps s)
      (λ said sp r. (
        (pace_at b s c).says ++ said,
        spoken_both _ ps _ (spoken_later (pace_at b s c).says said ps (ok said sp).1) (spoken_now (pace_at b s c).says said),
        then r (world.acts (world.foreman (with_said s said) c (subst (λ (k : ℕ). Heard (with_said s said) k c) (eqb-true j foreman_line e) (ok said sp).0))),
      )) l)
      (λ _. cond_both (ltb j b.workers) (worker_acts b j c ps s) (with_underway s ps) (Led b)
      (λ e. led_on s (worker_acts b j c ps s)
      (λ said sp r. (
        (effect_at b s j c).says ++ said,
        spoken_both _ ps _ (spoken_later (effect_at b s j c).says said ps (ok said sp).1) (spoken_now (effect_at b s j c).says said),
        then r (world.acts (world.worker (with_said s said) j c (ltb-true j b.workers e) (ok said sp).0)),
      )) l)
      (λ _. led_on s (with_underway s ps) (λ said sp r. (said, (ok said sp).1, r)) l))

  pub led_fresh : Led b fresh
  led_fresh = ∣ ([], tt, start) ∣₁

  pub led_up : (s : Crew) (j : ℕ) → Led b s → Led b (brought_up b j s)
  led_up s j = led_acts s j Open s.underway (λ said sp. (tt, sp))

  pub led_tick : (s : Crew) (j : ℕ) → Led b s → Led b (ticked b j s)
  led_tick s j = led_acts s j Tick s.underway (λ said sp. (tt, sp))

  pub led_work : (s : Crew) (j : ℕ) → Led b s → Led b (worked b j s)
  led_work s j = led_acts s j Work s.underway (λ said sp. (tt, sp))

  -- LINES

  led_handed : (s : Crew) (p : Parcel) (ps qs : List Parcel) → s.underway ≡ p ∷ ps → ((said : List Parcel) → Spoken said (p ∷ ps) → Spoken said qs) → Led b s → Led b (handed b p qs s)
  led_handed s p ps qs e ok = led_acts s p.to (Take p.from p.message) qs (λ said sp. (let h : Spoken said (p ∷ ps) = subst (Spoken said) e sp in (h.0, ok said h)))

  pub led_gave : (s : Crew) → Led b s → Led b (gave b s)
  led_gave s l = go s.underway refl
    where
      go : (ps : List Parcel) → s.underway ≡ ps → Led b (gave_of b ps s)
      go [] e = l
      go (p ∷ ps) e = led_handed s p ps ps e (λ said h. h.1) l

  pub led_doubled : (s : Crew) → Led b s → Led b (doubled b s)
  led_doubled s l = go s.underway refl
    where
      go : (ps : List Parcel) → s.underway ≡ ps → Led b (doubled_of b ps s)
      go [] e = l
      go (p ∷ ps) e = led_handed s p ps (ps ++ p ∷ []) e (λ said h. spoken_both said ps (p ∷ []) h.1 (h.0, tt)) l

  pub led_part : (s : Crew) (ps : List Parcel) → ((said : List Parcel) → Spoken said s.underway → Spoken said ps) → Led b s → Led b (with_underway s ps)
  led_part s ps ok = led_on s (with_underway s ps) (λ said sp r. (said, ok said sp, r))

  pub led_lost : (s : Crew) → Led b s → Led b (lost s)
  led_lost s = led_part s (drop 1 s.underway) (λ said. spoken_drop said 1 s.underway)

  pub led_delayed : (k : ℕ) (s : Crew) → Led b s → Led b (delayed k s)
  led_delayed k s = led_part s (behind k s.underway) (λ said. go said s.underway)
    where
      go : (said ps : List Parcel) → Spoken said ps → Spoken said (behind k ps)
      go said [] h = tt
      go said (p ∷ ps) h = spoken_both said (take k ps) (p ∷ drop k ps) (spoken_take said k ps h.1) (h.0, spoken_drop said k ps h.1)

  -- CRASHES: a call that is cut short before it appended or said anything

  silent : {S R : Type 0} (x : world.Effect S R) → world.said_by x 0 0 ≡ []
  silent x = go (leb (length x.appends) 0)
    where
      go : (e : Bool) → cond {A = List Parcel} e [] [] ≡ []
      go true = refl
      go false = refl

  pub led_crashed : (s : Crew) (j : ℕ) → Led b s → Led b (crashed b j s)
  led_crashed s j l =
      cond_both (eqb j foreman_line) (foreman_falls s) (cond (ltb j b.workers) (worker_falls j s) s) (Led b)
      (λ _. led_on s (foreman_falls s)
      (λ said sp r. (
        said,
        sp,
        subst (Reach b) (λ k. record { worker = s.worker; foreman = record { up = None; journal = append-nil s.foreman.journal k }; said = silent (pace_at b s Tick) k ++ said })
            (then r (world.foreman_crash (with_said s said) Tick 0 0 tt)),
      )) l)
      (λ _. cond_both (ltb j b.workers) (worker_falls j s) s (Led b)
      (λ e. led_on s (worker_falls j s)
      (λ said sp r. (
        said,
        sp,
        subst (Reach b) (λ k. record { worker = world.put j (record { up = None; journal = append-nil (s.worker j).journal k }) s.worker; foreman = s.foreman; said = silent (effect_at b s j Tick) k ++ said })
            (then r (world.worker_crash (with_said s said) j Tick 0 0 (ltb-true j b.workers e) tt)),
      )) l)
      (λ _. l))

  -- WHAT IS SHOWN

  pub shown : Proper b → (s : Crew) → Led b s → (i : ℕ) → i < b.workers → (x : W.Worker) → (s.worker i).up ≡ Some x →
      (x.share.states ≡ (share_of b i (meant b x.round)).states) × (x.share.rests ≡ (share_of b i (meant b x.round)).rests)
  shown ok s l i lt x e =
      ∥∥₁_elim l (×_prop (is_set (is_set ℕ_set) _ _) (is_set Bool-set _ _))
      (λ h. let t : TrueWorker b i x = (as_if_one b ok (with_said s h.0) h.2).workers i lt x e in (ap (λ v. v.states) t.share, ap (λ v. v.rests) t.share))
