-- What machines say to each other.
-- Assumes nothing.
use Rattle.std.specs.Prelude.{ℕ, Bool, List, map}
use Rattle.std.specs.List.{range_with_len}
use Rattle.meaning.specs.Meaning.{Letter}

pub data Message : Type 0 where
  -- a worker: the letters that its places sent to the places of another in a round
  Batch : (attempt round from to : ℕ) → List Letter → Message
  -- a worker has done its round and has a batch of it from each; and whether its places rest then and no letter came
  Ready : (attempt round : ℕ) → (over : Bool) → Message
  -- the foreman: go on to that round; the round of which all have a checkpoint; and whether it is over
  Go : (attempt round noted : ℕ) → (over : Bool) → Message
  -- the foreman: begin that attempt, from the checkpoint of that round
  Anew : (attempt round : ℕ) → Message
  -- a worker has a checkpoint of that round
  PutBy : (attempt round : ℕ) → Message
  -- a worker came up, and was last in that attempt
  Hello : (attempt : ℕ) → Message

-- Machines are known by the number of their line: workers from 0, the foreman after the last that there may be.
abbrev pub foreman_line : ℕ
foreman_line = 64

-- A message on its way. The line tells who sent it.
pub record Parcel : Type 0 where
  pub from : ℕ
  pub to : ℕ
  pub message : Message

-- the same to each of so many workers
abbrev pub to_all : (workers : ℕ) → Message → List Parcel
to_all m x = map (λ j. record { from = foreman_line; to = j; message = x }) (range_with_len 0 m)
