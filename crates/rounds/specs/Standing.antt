-- What places have after a round, as it is stored.
-- Assumes nothing.
use Rattle.std.specs.Prelude.{◌≡◌, ℕ, Bool, List, length, vec_items}
use Rattle.std.specs.List.{zip}
use Rattle.std.specs.Slice.Iter.{iter_rest}
use Rattle.packed.specs.Left.{strings_left}
use Rattle.packed.specs.Strings.{items}
use Rattle.rounds.specs.Sight.{Capped}
use Rattle.rounds.specs.declared.standing.Held.{Held}
use Rattle.rounds.specs.declared.standing.Iter.{Iter}
use Rattle.rounds.specs.declared.standing.Standing.{Standing}

-- states and rests of as many places, no state too long
pub record IsStanding (ss : List (List ℕ)) (bs : List Bool) : Type 0 where
  pub even : length ss ≡ length bs
  pub fits : Capped ss

-- the state and the rest of one place
abbrev pub held_of : Held → List ℕ × Bool
held_of h = (h.state.now, h.rests)

-- those of all places, in their order
abbrev pub all_held : Standing → List (List ℕ × Bool)
all_held s = zip (items s.states) (vec_items s.rests)

-- those that are still to come
abbrev pub left_in : Iter → List (List ℕ × Bool)
left_in i = zip (strings_left i.states) (iter_rest i.rests)
