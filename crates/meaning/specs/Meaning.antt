-- What places are after so many rounds, as if one machine did it all. Nothing of workers.
-- Assumes nothing.
use Rattle.std.specs.Prelude.{ℕ, zero, suc, ◌≤◌, Bool, true, false, cond, ◌&&◌, List, [], ◌∷◌, ◌++◌, map, length, filter, nat_eq, nat_lt}
use Rattle.std.specs.List.{range_with_len, AllByRecursion}
use Rattle.meaning.specs.Caps.{state_cap, send_cap, letter_cap}

-- A letter from a place to a place (the field's message).
pub record Letter : Type 0 where
  pub from : ℕ
  pub to : ℕ
  pub bytes : List ℕ

-- A letter as a plan gives it: the sender is who acts.
pub record Sent : Type 0 where
  pub to : ℕ
  pub bytes : List ℕ

-- All that a plan is given, and all that it comes to. A place that rests does nothing until a letter comes (it voted to halt).
pub record Input : Type 0 where
  pub round : ℕ
  pub place : ℕ
  pub state : List ℕ
  pub letters : List Letter

pub record Output : Type 0 where
  pub state : List ℕ
  pub sends : List Sent
  pub rests : Bool

-- A plan (a vertex program): the state that each place begins with, and what it does in a round.
pub record Program : Type 0 where
  pub first : ℕ → List ℕ
  pub does : Input → Output

-- An output within the limits.
pub record Fits (o : Output) : Type 0 where
  pub state : length o.state ≤ state_cap
  pub count : length o.sends ≤ send_cap
  pub each : AllByRecursion (λ (s : Sent). length s.bytes ≤ letter_cap) o.sends

-- All places, by number, and the letters that were sent in the last round, by rising senders.
pub record World : Type 0 where
  pub state : ℕ → List ℕ
  pub rests : ℕ → Bool
  pub post : List Letter

-- What a place comes to in a round, with the letters that it sent to places that are there.
pub record Turn : Type 0 where
  pub state : List ℕ
  pub rests : Bool
  pub sent : List Letter

abbrev pub none : {X : Type 0} → List X → Bool
none [] = true
none (x ∷ xs) = false

abbrev pub letters_for : ℕ → List Letter → List Letter
letters_for v = filter (λ (l : Letter). nat_eq v l.to)

-- of n places: what place v sends, to places that are there, in its name
abbrev pub posted : (n v : ℕ) → List Sent → List Letter
posted n v [] = []
posted n v (s ∷ ss) = cond (nat_lt s.to n) (record { from = v; to = s.to; bytes = s.bytes } ∷ posted n v ss) (posted n v ss)

-- A place that does what its plan says.
abbrev pub acted : (n : ℕ) → Program → Input → Turn
acted n q x = record { state = (q.does x).state; rests = (q.does x).rests; sent = posted n x.place (q.does x).sends }

-- Who rests and gets no letter keeps its state and does nothing.
abbrev pub turn : (n : ℕ) → Program → Input → (rested : Bool) → Turn
turn n q x rested = cond (rested && none x.letters) (record { state = x.state; rests = true; sent = [] }) (acted n q x)

abbrev pub input_at : (r : ℕ) → World → ℕ → Input
input_at r w v = record { round = r; place = v; state = w.state v; letters = letters_for v w.post }

abbrev pub turn_at : (n : ℕ) → Program → (r : ℕ) → World → ℕ → Turn
turn_at n q r w v = turn n q (input_at r w v) (w.rests v)

-- what the places below c sent
abbrev pub sent_below : (n : ℕ) → Program → (r : ℕ) → World → (c : ℕ) → List Letter
sent_below n q r w zero = []
sent_below n q r w (suc c) = sent_below n q r w c ++ (turn_at n q r w c).sent

abbrev pub start : Program → World
start q = record { state = q.first; rests = λ v. false; post = [] }

-- One round (a superstep) of n places.
abbrev pub round : (n : ℕ) → Program → (r : ℕ) → World → World
round n q r w = record { state = λ v. (turn_at n q r w v).state; rests = λ v. (turn_at n q r w v).rests; post = sent_below n q r w n }

-- So many rounds, numbered from 0.
unfoldable pub rounds : (n : ℕ) → Program → ℕ → World
rounds n q zero = start q
rounds n q (suc r) = round n q r (rounds n q r)

abbrev pub all_rest : ℕ → (ℕ → Bool) → Bool
all_rest zero f = true
all_rest (suc n) f = f n && all_rest n f

-- It is over when all rest and no letter is under way.
abbrev pub is_over : (n : ℕ) → World → Bool
is_over n w = none w.post && all_rest n w.rests

-- The first round after which it is over, looked for from r on in at most so many rounds.
unfoldable pub ends_from : (n : ℕ) → Program → (r budget : ℕ) → ℕ
ends_from n q r zero = r
ends_from n q r (suc b) = cond (is_over n (rounds n q r)) r (ends_from n q (suc r) b)

-- What there is to see of n places: states and rests by rising number, and the letters under way.
pub record View : Type 0 where
  pub states : List (List ℕ)
  pub rests : List Bool
  pub post : List Letter

abbrev pub seen : (n : ℕ) → World → View
seen n w = record { states = map w.state (range_with_len 0 n); rests = map w.rests (range_with_len 0 n); post = w.post }
