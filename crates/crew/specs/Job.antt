-- What all machines are given, and what a worker has of a world.
-- Assumes nothing.
use Rattle.std.specs.Prelude.{ℕ, zero, suc, ◌<◌, ◌≤◌, Bool, true, ◌&&◌, List, map, filter, nat_eq}
use Rattle.std.specs.List.{range_with_len}
use Rattle.meaning.specs.Meaning.{Letter, Program, World, View, rounds}

-- How many places there are and what they do; how many workers, and who has which place (the partition).
pub record Job : Type 0 where
  pub places : ℕ
  pub program : Program
  pub workers : ℕ
  pub owner : ℕ → ℕ

abbrev pub worker_cap : ℕ
worker_cap = 64

-- Every place has a worker, and there are neither too many workers nor none.
pub record Proper (b : Job) : Type 0 where
  pub some : 1 ≤ b.workers
  pub few : b.workers ≤ worker_cap
  pub owned : (v : ℕ) → v < b.places → b.owner v < b.workers

-- The world after so many rounds, as if one machine did it all.
abbrev pub meant : Job → ℕ → World
meant b r = rounds b.places b.program r

-- the places of worker i, rising
abbrev pub places_of : Job → (i : ℕ) → List ℕ
places_of b i = filter (λ v. nat_eq i (b.owner v)) (range_with_len 0 b.places)

-- letters to the places of worker i, and letters from them
abbrev pub letters_to : Job → (i : ℕ) → List Letter → List Letter
letters_to b i = filter (λ (l : Letter). nat_eq i (b.owner l.to))

abbrev pub letters_by : Job → (i : ℕ) → List Letter → List Letter
letters_by b i = filter (λ (l : Letter). nat_eq i (b.owner l.from))

-- What worker i has of a world: its places' states and rests, and the letters for them.
abbrev pub share_of : Job → (i : ℕ) → World → View
share_of b i w = record { states = map w.state (places_of b i); rests = map w.rests (places_of b i); post = letters_to b i w.post }

-- true of every number below c
abbrev pub all_below : (c : ℕ) → (ℕ → Bool) → Bool
all_below zero f = true
all_below (suc c) f = f c && all_below c f
