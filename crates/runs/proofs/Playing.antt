-- Whatever is played is a run: every schedule leads to a world that can be reached.
-- Assumes nothing.
use Rattle.std.proofs.Common.{◌≡◌, ℕ, Bool, true, false, cond, eqb, ltb, List, [], ◌∷◌, sym, refl, subst}
use mathlib.Core.List.{Memᴰ}
use Rattle.std.proofs.lemmas.Bool.{cond_both, eqb-true, ltb-true}
use Rattle.crew.specs.Job.{Job}
use Rattle.crew.specs.Messages.{Parcel, foreman_line}
use Rattle.runs.specs.World.{World, Call, Open, Take, Tick, Work, worker_did, worker_cut, foreman_did, foreman_cut, worker_effect, foreman_effect, began, Heard, worker, foreman, acts, worker_crash, foreman_crash, Reach, start, then}
use Rattle.runs.specs.Crew.{Spoken}
use Rattle.runs.specs.Played.{does, hears, Event, Up, Tick', Works, Hears, Crash, happens, plays}
use Rattle.runs.proofs.Said.{spoken_later, spoken_all}

module _ (b : Job) where
  reach_does : (w : World) (j : ℕ) (c : Call) → Heard w j c → Reach b w → Reach b (does b j c w)
  reach_does w j c h r =
      cond_both (eqb j foreman_line) (foreman_did b w c) (cond (ltb j b.workers) (worker_did b w j c) w) (Reach b)
      (λ e. then r (acts (foreman w c (subst (λ (k : ℕ). Heard w k c) (eqb-true j foreman_line e) h))))
      (λ _. cond_both (ltb j b.workers) (worker_did b w j c) w (Reach b) (λ e. then r (acts (worker w j c (ltb-true j b.workers e) h))) (λ _. r))

  -- a call only adds to what was said
  says_more : (w : World) (j : ℕ) (c : Call) (ps : List Parcel) → Spoken w.said ps → Spoken (does b j c w).said ps
  says_more w j c ps h =
      cond_both (eqb j foreman_line) (foreman_did b w c) (cond (ltb j b.workers) (worker_did b w j c) w) (λ v. Spoken v.said ps)
      (λ _. spoken_later (foreman_effect b w c).says w.said ps h)
      (λ _. cond_both (ltb j b.workers) (worker_did b w j c) w (λ v. Spoken v.said ps) (λ _. spoken_later (worker_effect b w j c).says w.said ps h) (λ _. h))

  reach_hears : (w : World) (j : ℕ) (ps : List Parcel) → Spoken w.said ps → Reach b w → Reach b (hears b j ps w)
  reach_hears w j [] h r = r
  reach_hears w j (p ∷ ps) h r = go (λ v s t. reach_hears v j ps s t) (eqb j p.to) refl
    where
      next : World
      next = does b j (Take p.from p.message) w

      go : ((v : World) → Spoken v.said ps → Reach b v → Reach b (hears b j ps v)) → (e : Bool) → eqb j p.to ≡ e → Reach b (hears b j ps (cond e next w))
      go on true e = on next (says_more w j (Take p.from p.message) ps h.1) (reach_does w j (Take p.from p.message) (subst (λ (k : ℕ). Memᴰ (record { from = p.from; to = k; message = p.message }) w.said) (sym (eqb-true j p.to e)) h.0) r)
      go on false e = on w h.1 r

  reach_happens : (w : World) (e : Event) → Reach b w → Reach b (happens b e w)
  reach_happens w (Up j) r = reach_does w j Open tt r
  reach_happens w (Tick' j) r = reach_does w j Tick tt r
  reach_happens w (Works j) r = reach_does w j Work tt r
  reach_happens w (Hears j) r = reach_hears w j w.said (spoken_all w.said) r
  reach_happens w (Crash j) r =
      cond_both (eqb j foreman_line) (foreman_cut b w Tick 0 0) (cond (ltb j b.workers) (worker_cut b w j Tick 0 0) w) (Reach b)
      (λ _. then r (foreman_crash w Tick 0 0 tt))
      (λ _. cond_both (ltb j b.workers) (worker_cut b w j Tick 0 0) w (Reach b) (λ e. then r (worker_crash w j Tick 0 0 (ltb-true j b.workers e) tt)) (λ _. r))

  pub reach_plays : (es : List Event) (w : World) → Reach b w → Reach b (plays b es w)
  reach_plays [] w r = r
  reach_plays (e ∷ es) w r = reach_plays es (happens b e w) (reach_happens w e r)

  pub played : (es : List Event) → Reach b (plays b es began)
  played es = reach_plays es began start
