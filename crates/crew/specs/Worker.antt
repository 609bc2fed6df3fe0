-- A worker: its state, and what each call comes to.
-- Assumes nothing.
use Rattle.std.specs.Prelude.{ℕ, zero, suc, ◌+◌, ◌%◌, Bool, true, false, cond, not, ◌&&◌, ◌||◌, List, [], ◌∷◌, ◌++◌, map, is_some, Some, None, Option, ◌==◌, nat_le, nat_lt}
use Rattle.std.specs.List.{range_with_len}
use Rattle.meaning.specs.Caps.{round_cap}
use Rattle.meaning.specs.Meaning.{Letter, Turn, View, letters_for, none, turn, start}
use Rattle.crew.specs.Job.{Job, places_of, letters_to, share_of, all_below}
use Rattle.crew.specs.Journals.{Record, Checkpoint, Joined, last_joined, checkpoint_of, greatest_below}
use Rattle.crew.specs.Messages.{Message, Batch, Ready, Go, Anew, PutBy, Hello, Parcel, foreman_line}
use Rattle.crew.specs.Outcomes.{Outcome, Taken, Reasons, wrong_kind, only_full, outcome_number, judged, is_taken}

-- joined: it is in its attempt; one that came up is out until it joins one
-- round, share: how many rounds are done, and what it has after them
-- worked: what its places come to in the next round, and what they send
-- got: the batches of that round, by who sent them
-- over: it was told that it is over
-- latest: the last round that it put by in this attempt
pub record Worker : Type 0 where
  pub joined : Bool
  pub attempt : ℕ
  pub round : ℕ
  pub share : View
  pub worked : Option View
  pub got : ℕ → Option (List Letter)
  pub over : Bool
  pub latest : Option ℕ

-- What a call comes to: the state then, what is appended to the journal, what is said once that is safe, and what the
-- message came to.
pub record Reply : Type 0 where
  pub state : Worker
  pub appends : List Record
  pub says : List Parcel
  pub outcome : Outcome

-- nothing changes and nothing is said
abbrev pub unmoved : Worker → Outcome → Reply
unmoved w o = record { state = w; appends = []; says = []; outcome = o }

abbrev pub attempt_cap : ℕ
attempt_cap = 2147483648

-- checkpoints are made after 8 rounds, 16 and so on
abbrev pub is_due : (round : ℕ) → Bool
is_due r = r % 8 == 0

-- WORK

-- what the places ps come to in round r, out of their states and rests and all letters
abbrev pub turns_of : Job → (r : ℕ) → (post : List Letter) → (ps : List ℕ) → List (List ℕ) → List Bool → List Turn
turns_of b r post [] ss bs = []
turns_of b r post (v ∷ ps) [] bs = []
turns_of b r post (v ∷ ps) (s ∷ ss) [] = []
turns_of b r post (v ∷ ps) (s ∷ ss) (e ∷ bs) = turn b.places b.program (record { round = r; place = v; state = s; letters = letters_for v post }) e ∷ turns_of b r post ps ss bs

abbrev pub sent_in : List Turn → List Letter
sent_in [] = []
sent_in (t ∷ ts) = t.sent ++ sent_in ts

abbrev pub view_of_turns : List Turn → View
view_of_turns ts = record { states = map (λ (t : Turn). t.state) ts; rests = map (λ (t : Turn). t.rests) ts; post = sent_in ts }

-- round r of the places of worker i
abbrev pub worked_of : Job → (i r : ℕ) → View → View
worked_of b i r s = view_of_turns (turns_of b r s.post (places_of b i) s.states s.rests)

-- PUTTING LETTERS TOGETHER

-- x before what `rest` makes of the second list, once the earlier of that are out
abbrev pub placed : Letter → (List Letter → List Letter) → List Letter → List Letter
placed x rest [] = x ∷ rest []
placed x rest (y ∷ ys) = cond (nat_le x.from y.from) (x ∷ rest (y ∷ ys)) (y ∷ placed x rest ys)

-- two lists by rising senders; of one sender those of the first come first
abbrev pub merge : List Letter → List Letter → List Letter
merge [] ys = ys
merge (x ∷ xs) ys = placed x (merge xs) ys

abbrev pub letters_in : Option (List Letter) → List Letter
letters_in None = []
letters_in (Some ls) = ls

-- the batches of the workers below c
abbrev pub merged_below : (ℕ → Option (List Letter)) → (c : ℕ) → List Letter
merged_below got zero = []
merged_below got (suc c) = merge (merged_below got c) (letters_in (got c))

-- WHAT IS SAID, a function of the state

abbrev pub nothing_got : ℕ → Option (List Letter)
nothing_got j = None

abbrev pub view_in : Option View → View
view_in None = record { states = []; rests = []; post = [] }
view_in (Some s) = s

abbrev pub is_ready : Job → Worker → Bool
is_ready b w = is_some w.worked && all_below b.workers (λ j. is_some (w.got j))

abbrev pub all_true : List Bool → Bool
all_true [] = true
all_true (e ∷ bs) = e && all_true bs

-- all its places rest after the round, and no letter came for them
abbrev pub is_silent : Job → Worker → Bool
is_silent b w = all_true (view_in w.worked).rests && all_below b.workers (λ j. none (letters_in (w.got j)))

abbrev pub batch_to : Job → (i : ℕ) → Worker → (j : ℕ) → Parcel
batch_to b i w j = record { from = i; to = j; message = Batch w.attempt w.round i j (letters_to b j (view_in w.worked).post) }

abbrev pub to_foreman : (i : ℕ) → Message → Parcel
to_foreman i x = record { from = i; to = foreman_line; message = x }

abbrev pub says_batches : Job → (i : ℕ) → Worker → List Parcel
says_batches b i w = cond (is_some w.worked) (map (batch_to b i w) (range_with_len 0 b.workers)) []

abbrev pub says_ready : Job → (i : ℕ) → Worker → List Parcel
says_ready b i w = cond (is_ready b w) (to_foreman i (Ready w.attempt w.round (is_silent b w)) ∷ []) []

abbrev pub says_put_by : (i attempt : ℕ) → Option ℕ → List Parcel
says_put_by i k None = []
says_put_by i k (Some r) = to_foreman i (PutBy k r) ∷ []

-- THE CALLS

abbrev pub first_share : Job → (i : ℕ) → View
first_share b i = share_of b i (start b.program)

-- in an attempt, from a round on
abbrev pub joined_at : (attempt round : ℕ) → View → Worker
joined_at k r s = record { joined = true; attempt = k; round = r; share = s; worked = None; got = nothing_got; over = false; latest = None }

abbrev pub out_of : Job → (i attempt : ℕ) → Worker
out_of b i k = record { joined = false; attempt = k; round = 0; share = first_share b i; worked = None; got = nothing_got; over = false; latest = None }

-- A fresh machine, whose journal is empty, is in attempt 0. One that came up is out, and says hello.
abbrev pub opened : Job → (i : ℕ) → List Record → Reply
opened b i [] = record { state = joined_at 0 0 (first_share b i); appends = Joined 0 ∷ []; says = []; outcome = Taken }
opened b i (x ∷ xs) = record { state = out_of b i (last_joined 0 (x ∷ xs)); appends = []; says = to_foreman i (Hello (last_joined 0 (x ∷ xs))) ∷ []; outcome = Taken }

-- Everything again.
abbrev pub ticked : Job → (i : ℕ) → Worker → Reply
ticked b i w =
    record {
      state = w;
      appends = [];
      says = cond w.joined (cond w.over [] (says_batches b i w ++ says_ready b i w ++ says_put_by i w.attempt w.latest)) (to_foreman i (Hello w.attempt) ∷ []);
      outcome = Taken;
    }

-- it is in a round that it hasn't worked
abbrev pub is_idle : Worker → Bool
is_idle w = w.joined && not w.over && not (is_some w.worked)

abbrev pub with_worked : Job → (i : ℕ) → Worker → Worker
with_worked b i w = record { joined = w.joined; attempt = w.attempt; round = w.round; share = w.share; worked = Some (worked_of b i w.round w.share); got = w.got; over = w.over; latest = w.latest }

abbrev pub did_work : Job → (i : ℕ) → Worker → Reply
did_work b i w = record { state = w; appends = []; says = says_batches b i w ++ says_ready b i w; outcome = Taken }

-- Does the next round for its places, in memory beside.
abbrev pub works : Job → (i : ℕ) → Worker → Reply
works b i w =
    cond (is_idle w)
    (cond (nat_lt w.round round_cap) (did_work b i (with_worked b i w)) (unmoved w (judged only_full)))
    (unmoved w Taken)

-- TAKING A MESSAGE that came on a line

abbrev pub all_letters : (Letter → Bool) → List Letter → Bool
all_letters f [] = true
all_letters f (l ∷ ls) = f l && all_letters f ls

abbrev pub rising_from : ℕ → List Letter → Bool
rising_from u [] = true
rising_from u (l ∷ ls) = nat_le u l.from && rising_from l.from ls

-- letters of places that are there, by rising senders
abbrev pub well_formed : Job → List Letter → Bool
well_formed b ls = rising_from 0 ls && all_letters (λ (l : Letter). nat_lt l.from b.places && nat_lt l.to b.places) ls

-- all from places of j and to places of i
abbrev pub between : Job → (j i : ℕ) → List Letter → Bool
between b j i = all_letters (λ (l : Letter). (j == b.owner l.from) && i == b.owner l.to)

abbrev pub reasons : Job → (i : ℕ) → List Record → Worker → (line : ℕ) → Message → Reasons
reasons b i js w j (Batch k r f t ls) =
    record {
      malformed = not (nat_lt j b.workers && nat_lt f b.workers && nat_lt t b.workers && well_formed b ls);
      stale = not (w.joined && k == w.attempt && r == w.round && not w.over);
      double = is_some (w.got j);
      foreign = not (t == i && f == j && between b j i ls);
      unready = false;
      missing = false;
      full = false;
    }
reasons b i js w j (Go k r nr e) =
    record {
      malformed = not (j == foreman_line);
      stale = not (w.joined && k == w.attempt && r == w.round + 1);
      double = false;
      foreign = false;
      unready = not (is_ready b w);
      missing = false;
      full = false;
    }
reasons b i js w j (Anew k r) =
    record {
      malformed = not (j == foreman_line);
      stale = nat_le k w.attempt;
      double = false;
      foreign = false;
      unready = false;
      missing = not (r == 0 || is_some (checkpoint_of r js));
      full = nat_le attempt_cap k;
    }
reasons b i js w j (Ready k r e) = wrong_kind
reasons b i js w j (PutBy k r) = wrong_kind
reasons b i js w j (Hello k) = wrong_kind

abbrev pub with_batch : Worker → (j : ℕ) → List Letter → Worker
with_batch w j ls = record { joined = w.joined; attempt = w.attempt; round = w.round; share = w.share; worked = w.worked; got = λ k. cond (k == j) (Some ls) (w.got k); over = w.over; latest = w.latest }

-- what it worked is what is, with the letters that it got
abbrev pub next_share : Job → Worker → View
next_share b w = record { states = (view_in w.worked).states; rests = (view_in w.worked).rests; post = merged_below w.got b.workers }

abbrev pub went_on : Job → Worker → (over : Bool) → Worker
went_on b w e =
    record {
      joined = w.joined;
      attempt = w.attempt;
      round = w.round + 1;
      share = next_share b w;
      worked = None;
      got = nothing_got;
      over = e;
      latest = cond (is_due (w.round + 1)) (Some (w.round + 1)) w.latest;
    }

-- what it begins an attempt with
abbrev pub share_at : Job → (i r : ℕ) → List Record → View
share_at b i r js = cond (r == 0) (first_share b i) (view_in (checkpoint_of r js))

-- what a message does that is taken
abbrev pub taking : Job → (i : ℕ) → List Record → Worker → (line : ℕ) → Message → Reply
taking b i js w j (Batch k r f t ls) = record { state = with_batch w j ls; appends = []; says = says_ready b i (with_batch w j ls); outcome = Taken }
taking b i js w j (Go k r nr e) =
    record {
      state = went_on b w e;
      appends = cond (is_due (w.round + 1)) (Checkpoint (w.round + 1) (next_share b w) ∷ []) [];
      says = cond (is_due (w.round + 1)) (to_foreman i (PutBy w.attempt (w.round + 1)) ∷ []) [];
      outcome = Taken;
    }
taking b i js w j (Anew k r) = record { state = joined_at k r (share_at b i r js); appends = Joined k ∷ []; says = []; outcome = Taken }
taking b i js w j (Ready k r e) = unmoved w Taken
taking b i js w j (PutBy k r) = unmoved w Taken
taking b i js w j (Hello k) = unmoved w Taken

-- One message that is not taken has an answer all the same: to an anew whose checkpoint isn't there, the last one before it.
abbrev pub answer : (i : ℕ) → List Record → Message → Outcome → List Parcel
answer i js (Batch k r f t ls) o = []
answer i js (Ready k r e) o = []
answer i js (Go k r nr e) o = []
answer i js (Anew k r) o = cond (outcome_number o == 6) (to_foreman i (PutBy k (greatest_below 0 r js)) ∷ []) []
answer i js (PutBy k r) o = []
answer i js (Hello k) o = []

abbrev pub took_by : Job → (i : ℕ) → List Record → Worker → (line : ℕ) → Message → Outcome → Reply
took_by b i js w j x o = cond (is_taken o) (taking b i js w j x) (record { state = w; appends = []; says = answer i js x o; outcome = o })

-- A message that came on line j. Where it is not taken, state and journal are as they were.
abbrev pub took : Job → (i : ℕ) → List Record → Worker → (line : ℕ) → Message → Reply
took b i js w j x = took_by b i js w j x (judged (reasons b i js w j x))
