-- What is promised of every run. Each is a type, and stands on the contract of a public function.
-- Assumes nothing.
use Rattle.std.specs.Prelude.{◌≡◌, ℕ, suc, ◌+◌, ◌*◌, ◌<◌, ◌≤◌, Bool, true, false, ◌&&◌, ◌⊎◌, List, map, Some, ◌≢◌}
use mathlib.Core.List.{Memᴰ}
use Rattle.std.specs.List.{AllByRecursion}
use Rattle.meaning.specs.Caps.{round_cap}
use Rattle.meaning.specs.Meaning.{Letter, View, none, is_over}
use Rattle.crew.specs.Job.{Job, Proper, meant, places_of, letters_to, letters_by, share_of}
use Rattle.crew.specs.Journals.{Record, Checkpoint, Joined, last_began}
use Rattle.crew.specs.Messages.{Message, Batch, Ready, Go, Anew, PutBy, Hello, Parcel, foreman_line}
use Rattle.crew.specs.Outcomes.{outcome_number}
use Rattle.crew.specs.Worker.{Worker, attempt_cap, all_true, took}
use Rattle.crew.specs.Foreman.{Foreman, ticked}
use Rattle.runs.specs.World.{World, Reach, Way}

-- WHAT IS TRUE

-- what worker i's places come to in round r, and what they send
abbrev pub work_meant : Job → (i r : ℕ) → View
work_meant b i r = record { states = map (meant b (suc r)).state (places_of b i); rests = map (meant b (suc r)).rests (places_of b i); post = letters_by b i (meant b (suc r)).post }

-- after r rounds all places of worker i rest, and no letter is under way to them
abbrev pub silent_meant : Job → (i r : ℕ) → Bool
silent_meant b i r = all_true (share_of b i (meant b r)).rests && none (share_of b i (meant b r)).post

pub record TrueWorker (b : Job) (i : ℕ) (x : Worker) : Type 0 where
  pub share : x.share ≡ share_of b i (meant b x.round)
  pub worked : (s : View) → x.worked ≡ Some s → s ≡ work_meant b i x.round
  pub got : (j : ℕ) (ls : List Letter) → x.got j ≡ Some ls → ls ≡ letters_to b i (letters_by b j (meant b (suc x.round)).post)
  pub over : x.over ≡ true → is_over b.places (meant b x.round) ≡ true

abbrev pub TrueRecord : Job → (i : ℕ) → Record → Type 0
TrueRecord b i (Checkpoint r s) = s ≡ share_of b i (meant b r)
TrueRecord b i (Joined k) = Unit {0}

-- whatever the attempt
abbrev pub TrueMessage : Job → (from : ℕ) → Message → Type 0
TrueMessage b i (Batch k r f t ls) = (f ≡ i) × (ls ≡ letters_to b t (letters_by b f (meant b (suc r)).post))
TrueMessage b i (Ready k r e) = e ≡ silent_meant b i (suc r)
TrueMessage b i (Go k r nr e) = e ≡ true → is_over b.places (meant b r) ≡ true
TrueMessage b i (Anew k r) = Unit {0}
TrueMessage b i (PutBy k r) = Unit {0}
TrueMessage b i (Hello k) = Unit {0}

-- 1. AS IF ONE DID IT. In every world that any run leads to, whatever was lost, doubled, late or out of order, and whoever
-- crashed: what a worker has of its places, what it worked and got, what it put by, and all that was ever said, is what the
-- meaning makes of that round.
pub record True (b : Job) (w : World) : Type 0 where
  pub workers : (i : ℕ) → i < b.workers → (x : Worker) → (w.worker i).up ≡ Some x → TrueWorker b i x
  pub journals : (i : ℕ) → i < b.workers → AllByRecursion (TrueRecord b i) (w.worker i).journal
  pub said : AllByRecursion (λ (p : Parcel). TrueMessage b p.from p.message) w.said

abbrev pub AsIfOne : Type 0
AsIfOne = (b : Job) → Proper b → (w : World) → Reach b w → True b w

-- 2. OVER IS OVER. A go that was ever said with over is true of that round and of every later one.
abbrev pub OverIsOver : Type 0
OverIsOver =
    (b : Job) → Proper b → (w : World) → Reach b w → (i j k r nr : ℕ) → Memᴰ (record { from = i; to = j; message = Go k r nr true }) w.said →
    (d : ℕ) → is_over b.places (meant b (r + d)) ≡ true

-- 3. IN STEP. Workers of one attempt are at most a round apart.
abbrev pub InStep : Type 0
InStep =
    (b : Job) → Proper b → (w : World) → Reach b w → (i j : ℕ) → i < b.workers → j < b.workers → (x y : Worker) → (w.worker i).up ≡ Some x → (w.worker j).up ≡ Some y →
    x.joined ≡ true → y.joined ≡ true → x.attempt ≡ y.attempt → x.round ≤ y.round + 1

-- No attempt is ever said with two rounds.
abbrev pub OneRound : Type 0
OneRound =
    (b : Job) → Proper b → (w : World) → Reach b w → (i j k r s : ℕ) → Memᴰ (record { from = foreman_line; to = i; message = Anew k r }) w.said → Memᴰ (record { from = foreman_line; to = j; message = Anew k s }) w.said → r ≡ s

-- No go that was said finds a worker that isn't ready for it, and no anew one without the checkpoint.
abbrev pub NeverUnready : Type 0
NeverUnready =
    (b : Job) → Proper b → (w : World) → Reach b w → (i j : ℕ) → i < b.workers → (x : Worker) → (w.worker i).up ≡ Some x → (m : Message) → Memᴰ (record { from = j; to = i; message = m }) w.said →
    (outcome_number (took b i (w.worker i).journal x j m).outcome ≢ 5) × (outcome_number (took b i (w.worker i).journal x j m).outcome ≢ 6)

-- 4. IT GOES ON.

-- Nobody is missing: the foreman is up and in attempt k, awaiting round r, and so is each worker.
pub record AllAt (b : Job) (k r : ℕ) (w : World) : Type 0 where
  pub foreman : (f : Foreman) × (w.foreman.up ≡ Some f) × (f.attempt ≡ k) × (f.at ≡ r) × (f.over ≡ false)
  pub workers : (i : ℕ) → i < b.workers → (x : Worker) × ((w.worker i).up ≡ Some x) × (x.joined ≡ true) × (x.attempt ≡ k) × (x.round ≡ r)

-- It is over, and everybody knows.
pub record Ended (b : Job) (w : World) : Type 0 where
  pub foreman : (f : Foreman) × (w.foreman.up ≡ Some f) × (f.over ≡ true)
  pub workers : (i : ℕ) → i < b.workers → (x : Worker) × ((w.worker i).up ≡ Some x) × (x.joined ≡ true) × (x.over ≡ true)

-- attempts are not used up
abbrev pub Roomy : World → Type 0
Roomy w = last_began 0 w.foreman.journal + 2 < attempt_cap

-- over is not said in the current attempt
abbrev pub Going : World → Type 0
Going w = (f : Foreman) → w.foreman.up ≡ Some f → f.over ≡ false

-- From whatever has come to be, by calls of the machines alone, with nobody crashing and the lines choosing what comes when,
-- there is a way to where all are up, in one attempt and at any round that is asked for, or to where it is over.
abbrev pub GoesOn : Type 0
GoesOn =
    (b : Job) → Proper b → (w : World) → Reach b w → Roomy w → Going w → (r : ℕ) → r < round_cap →
    (v : World) × Way b w v × ((((k : ℕ) × (s : ℕ) × (r ≤ s) × AllAt b k s v)) ⊎ Ended b v)

-- If the meaning comes to be over, then over is said, and every worker is told.
abbrev pub OverIsSaid : Type 0
OverIsSaid =
    (b : Job) → Proper b → (w : World) → Reach b w → Roomy w → Going w → (r : ℕ) → 1 ≤ r → r < round_cap → is_over b.places (meant b r) ≡ true →
    (v : World) × Way b w v × Ended b v

-- Who crashes after over comes back too: from every world in which it is over there is a way to where everybody is up and knows.
abbrev pub ComesBack : Type 0
ComesBack =
    (b : Job) → Proper b → (w : World) → Reach b w → Roomy w → ((f : Foreman) × (w.foreman.up ≡ Some f) × (f.over ≡ true) × (f.at < round_cap)) →
    (v : World) × Way b w v × Ended b v

-- 5. NOTING GOES ON. The noted round can rise to any multiple of 8 that the run has not ended before.
abbrev pub NotesOn : Type 0
NotesOn =
    (b : Job) → Proper b → (w : World) → Reach b w → Roomy w → Going w → (c : ℕ) → 8 * c < round_cap → ((r : ℕ) → 1 ≤ r → r ≤ 8 * c → is_over b.places (meant b r) ≡ false) →
    (v : World) × Way b w v × ((f : Foreman) × (v.foreman.up ≡ Some f) × (8 * c ≤ f.noted))

-- 7. THE HUNDRED TICKS. Of a foreman that has taken nothing for q ticks and has not said over, each tick up to the
-- ninety-ninth leaves the attempt, and the hundredth begins the next.
abbrev pub HundredTicks : Type 0
HundredTicks =
    (m : ℕ) (f : Foreman) → f.over ≡ false → f.attempt + 1 < attempt_cap →
    ((f.quiet + 1 < 100) → (g : Foreman) × ((ticked m f).state ≡ Some g) × (g.attempt ≡ f.attempt) × (g.quiet ≡ f.quiet + 1) × (g.over ≡ false)) ×
    ((100 ≤ f.quiet + 1) → (g : Foreman) × ((ticked m f).state ≡ Some g) × (g.attempt ≡ f.attempt + 1) × (g.start ≡ f.noted))
