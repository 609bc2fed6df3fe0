-- The foreman: its state, and what each call comes to.
-- Assumes nothing.
use Rattle.std.specs.Prelude.{ℕ, zero, suc, ◌+◌, min, Bool, true, false, cond, not, ◌&&◌, ◌||◌, List, [], ◌∷◌, Some, None, Option, ◌==◌, nat_le, nat_lt}
use Rattle.meaning.specs.Caps.{round_cap}
use Rattle.crew.specs.Job.{all_below}
use Rattle.crew.specs.Journals.{Note, Began, Noted, last_began, last_noted}
use Rattle.crew.specs.Messages.{Message, Batch, Ready, Go, Anew, PutBy, Hello, Parcel, to_all}
use Rattle.crew.specs.Outcomes.{Outcome, Taken, Reasons, wrong_kind, only_full, judged, is_taken}
use Rattle.crew.specs.Worker.{attempt_cap, is_due}

-- attempt, start: the attempt that it began last, and from which round
-- at: the round that all are in; ready: who is ready for the next; ending: all of these said that theirs is over
-- over: it said that it is over
-- noted: the last round of which all have a checkpoint; kept: the last round that each said in this attempt it has one of
-- quiet: ticks since it took anything
pub record Foreman : Type 0 where
  pub attempt : ℕ
  pub start : ℕ
  pub at : ℕ
  pub ready : ℕ → Bool
  pub ending : Bool
  pub over : Bool
  pub noted : ℕ
  pub kept : ℕ → ℕ
  pub quiet : ℕ

-- A call's state, what is appended, what is said once that is safe, and the outcome. It is not up where it could not open.
pub record Reply : Type 0 where
  pub state : Option Foreman
  pub appends : List Note
  pub says : List Parcel
  pub outcome : Outcome

abbrev pub unmoved : Foreman → Outcome → Reply
unmoved f o = record { state = Some f; appends = []; says = []; outcome = o }

-- an attempt, from a round
abbrev pub begun : (attempt round : ℕ) → Foreman
begun k r = record { attempt = k; start = r; at = r; ready = λ j. false; ending = true; over = false; noted = r; kept = λ j. r; quiet = 0 }

abbrev pub patience : ℕ
patience = 100

-- WHAT IS SAID, a function of the state
abbrev pub saying : Foreman → Message
saying f = cond (f.at == f.start && nat_lt 0 f.attempt) (Anew f.attempt f.start) (Go f.attempt f.at f.noted f.over)

-- BEGINNING ANEW, from round r, with these notes before; refused where attempts are used up, and then f stays
abbrev pub begins : (m : ℕ) → Foreman → (r : ℕ) → List Note → Reply
begins m f r xs = record { state = Some (begun (f.attempt + 1) r); appends = xs; says = to_all m (Anew (f.attempt + 1) r); outcome = Taken }

abbrev pub is_last : Foreman → Bool
is_last f = nat_le attempt_cap (f.attempt + 1)

-- A fresh foreman is in attempt 0. One that came up begins the next attempt.
abbrev pub opened_at : (m k r : ℕ) → Reply
opened_at m k r =
    cond (nat_le attempt_cap k)
    (record { state = None; appends = []; says = []; outcome = judged only_full })
    (record { state = Some (begun k r); appends = Began k ∷ []; says = to_all m (Anew k r); outcome = Taken })

abbrev pub opened : (m : ℕ) → List Note → Reply
opened m [] = record { state = Some (begun 0 0); appends = Began 0 ∷ []; says = []; outcome = Taken }
opened m (x ∷ xs) = opened_at m (last_began 0 (x ∷ xs) + 1) (last_noted 0 (x ∷ xs))

abbrev pub with_quiet : Foreman → ℕ → Foreman
with_quiet f c = record { attempt = f.attempt; start = f.start; at = f.at; ready = f.ready; ending = f.ending; over = f.over; noted = f.noted; kept = f.kept; quiet = c }

-- Everything again; and at the hundredth tick with nothing taken, an attempt anew.
abbrev pub waited : (m : ℕ) → Foreman → Reply
waited m f = record { state = Some f; appends = []; says = to_all m (saying f); outcome = Taken }

abbrev pub ticked : (m : ℕ) → Foreman → Reply
ticked m f =
    cond f.over (waited m f)
    (cond (nat_lt (f.quiet + 1) patience) (waited m (with_quiet f (f.quiet + 1)))
    (cond (is_last f) (record { state = Some f; appends = []; says = to_all m (saying f); outcome = judged only_full })
    (begins m f f.noted (Began (f.attempt + 1) ∷ []))))

-- TAKING A MESSAGE that came on line j

-- a checkpoint below the round that the attempt began from: a worker reports that it hasn't that one
abbrev pub is_report : Foreman → (r : ℕ) → Bool
is_report f r = nat_lt r f.start

abbrev pub reasons : (m : ℕ) → Foreman → (line : ℕ) → Message → Reasons
reasons m f j (Ready k r e) =
    record {
      malformed = not (nat_lt j m);
      stale = not (k == f.attempt && r == f.at && not f.over && not (f.ready j));
      double = false;
      foreign = false;
      unready = false;
      missing = false;
      full = nat_le round_cap f.at;
    }
reasons m f j (PutBy k r) =
    record {
      malformed = not (nat_lt j m);
      stale = not (k == f.attempt && nat_le r f.at && is_due r && (is_report f r || nat_lt (f.kept j) r));
      double = false;
      foreign = false;
      unready = false;
      missing = false;
      full = is_report f r && is_last f;
    }
reasons m f j (Hello k) =
    record {
      malformed = not (nat_lt j m);
      stale = not (k == f.attempt);
      double = false;
      foreign = false;
      unready = false;
      missing = false;
      full = is_last f;
    }
reasons m f j (Batch k r s t ls) = wrong_kind
reasons m f j (Go k r nr e) = wrong_kind
reasons m f j (Anew k r) = wrong_kind

-- one more is ready
abbrev pub with_ready : Foreman → (j : ℕ) → (over : Bool) → Foreman
with_ready f j e = record { attempt = f.attempt; start = f.start; at = f.at; ready = λ k. (k == j) || f.ready k; ending = f.ending && e; over = f.over; noted = f.noted; kept = f.kept; quiet = 0 }

-- all are: on to the next round, and over if all said so
abbrev pub advanced : Foreman → Foreman
advanced f = record { attempt = f.attempt; start = f.start; at = f.at + 1; ready = λ k. false; ending = true; over = f.ending; noted = f.noted; kept = f.kept; quiet = f.quiet }

abbrev pub counted : (m : ℕ) → Foreman → Reply
counted m f = cond (all_below m f.ready) (record { state = Some (advanced f); appends = []; says = to_all m (saying (advanced f)); outcome = Taken }) (unmoved f Taken)

-- the least of c numbers, and g
abbrev pub least_of : (g c : ℕ) → (ℕ → ℕ) → ℕ
least_of g zero f = g
least_of g (suc c) f = min (f c) (least_of g c f)

abbrev pub with_kept : Foreman → (j r noted : ℕ) → Foreman
with_kept f j r nr = record { attempt = f.attempt; start = f.start; at = f.at; ready = f.ready; ending = f.ending; over = f.over; noted = nr; kept = λ k. cond (k == j) r (f.kept k); quiet = 0 }

-- the last round of which all have said that they have a checkpoint, once j says so of r
abbrev pub least_kept : (m : ℕ) → Foreman → (j r : ℕ) → ℕ
least_kept m f j r = least_of r m (λ k. cond (k == j) r (f.kept k))

abbrev pub notes : (m : ℕ) → Foreman → (j r : ℕ) → Reply
notes m f j r =
    cond (nat_lt f.noted (least_kept m f j r))
    (record { state = Some (with_kept f j r (least_kept m f j r)); appends = Noted (least_kept m f j r) ∷ []; says = []; outcome = Taken })
    (unmoved (with_kept f j r f.noted) Taken)

abbrev pub taking : (m : ℕ) → Foreman → (line : ℕ) → Message → Reply
taking m f j (Ready k r e) = counted m (with_ready f j e)
taking m f j (PutBy k r) = cond (is_report f r) (begins m f r (Noted r ∷ Began (f.attempt + 1) ∷ [])) (notes m f j r)
taking m f j (Hello k) = begins m f f.noted (Began (f.attempt + 1) ∷ [])
taking m f j (Batch k r s t ls) = unmoved f Taken
taking m f j (Go k r nr e) = unmoved f Taken
taking m f j (Anew k r) = unmoved f Taken

abbrev pub took_by : (m : ℕ) → Foreman → (line : ℕ) → Message → Outcome → Reply
took_by m f j x o = cond (is_taken o) (taking m f j x) (unmoved f o)

-- A message that came on line j. Where it is not taken, state and journal are as they were, and nothing is said.
abbrev pub took : (m : ℕ) → Foreman → (line : ℕ) → Message → Reply
took m f j x = took_by m f j x (judged (reasons m f j x))
