-- The foreman as it is stored, and what its calls come to.
-- Assumes nothing.
use Rattle.std.specs.Prelude.{◌≡◌, ℕ, Bool, false, not, List, [], Some, None, vec_items, slice_index_or}
use Rattle.crew.specs.Foreman as F
use Rattle.crew.specs.Journals as J
use Rattle.crew.specs.Messages.{to_all}
use Rattle.crew.specs.Outcomes.{Outcome, Reasons, judged, only_full}
use Rattle.crew.specs.Ready.{bit}
use Rattle.crew.specs.Stored.{notes_of, parcels_of}
use Rattle.crew.specs.declared.foreman.Foreman.{Foreman}
use Rattle.crew.specs.declared.foreman.OpenFault.{OpenFault}
use Rattle.crew.specs.declared.foreman.OpenFault.TheVariants as fault
use Rattle.crew.specs.declared.foreman.Paced.{Paced}

-- Past the 64 workers that there may be, none is ready, and nobody said more than the round that the attempt began from.
abbrev pub foreman_of : Foreman → F.Foreman
foreman_of f =
    record {
      attempt = f.attempt.0;
      start = f.start.0;
      at = f.at.0;
      ready = bit f.ready.0;
      ending = f.ending;
      over = f.over;
      noted = f.noted.0;
      kept = λ j. (slice_index_or f.kept j f.start).0;
      quiet = f.quiet;
    }

abbrev pub reply_of : Paced → F.Reply
reply_of p =
    record {
      state = Some (foreman_of p.foreman);
      appends = notes_of (vec_items p.owed.appends);
      says = parcels_of (vec_items p.owed.says);
      outcome = p.outcome;
    }

-- a call of a foreman of m workers came to this reply
pub record Gives (m : ℕ) (reply : F.Reply) (p : Paced) : Type 0 where
  pub workers : p.foreman.workers ≡ m
  pub is : reply_of p ≡ reply

-- the same foreman of m workers says everything again
abbrev pub again : (m : ℕ) → F.Foreman → Outcome → F.Reply
again m f o = record { state = Some f; appends = []; says = to_all m (F.saying f); outcome = o }

-- the reasons that a foreman has: no such line, not what it waits for, used up
abbrev pub reasons_by : (there fits full : Bool) → Reasons
reasons_by t s u = record { malformed = not t; stale = not s; double = false; foreign = false; unready = false; missing = false; full = u }

-- when a foreman of m workers with these notes does not open, for this reason
abbrev pub OpenRefused : (m : ℕ) → List J.Note → OpenFault → Type 0
OpenRefused m xs fault.UsedUp = F.opened m xs ≡ record { state = None; appends = []; says = []; outcome = judged only_full }
OpenRefused m xs fault.Memory = Unit {0}
