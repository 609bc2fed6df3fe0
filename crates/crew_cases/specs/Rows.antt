-- A case: one of one machine alone, or a crew's, with what happens and what is expected of it. What happens is done by
-- the definitions that the code's contracts cite.
-- Assumes nothing.
use Rattle.std.specs.Prelude.{◌≡◌, ℕ, List, [], map, length, Some, None, filter, Option, nat_eq, slice_index_or}
use Rattle.std.specs.List.{range_with_len, AllByRecursion}
use Rattle.meaning.specs.Meaning.{Letter, letters_for}
use Rattle.cases.specs.Rows as Alone
use Rattle.cases.specs.Rows.{state, letters, resting, over}
use Rattle.crew.specs.Foreman.{Foreman}
use Rattle.crew.specs.Job.{Job}
use Rattle.crew.specs.Messages.{Message}
use Rattle.crew.specs.Outcomes.{outcome_number}
use Rattle.crew.specs.Worker.{Worker, all_true, took}
use Rattle.runs.specs.Played.{Event, plays}
use Rattle.runs.specs.World as Crew

-- of what came of it
pub data Expected : Type 0 where
  -- what is expected of one machine's world: the workers have it together
  as_one : Alone.Expected → Expected
  -- a worker's attempt and round; the foreman's attempt, the round that it began from, and the noted round
  worker : (line attempt round : ℕ) → Expected
  foreman : (attempt start noted : ℕ) → Expected
  -- what a message on a line comes to at a worker, by its number
  comes_to : (worker line : ℕ) → Message → (number : ℕ) → Expected

pub data Row : Type 0 where
  alone : Alone.Row → Row
  crew : Job → List Event → List Expected → Row

-- WHAT A CREW COMES TO
abbrev pub worker_and : Option Worker → (Worker → Type 0) → Type 0
worker_and None f = ⊥
worker_and (Some x) f = f x

abbrev pub foreman_and : Option Foreman → (Foreman → Type 0) → Type 0
foreman_and None f = ⊥
foreman_and (Some x) f = f x

-- where a place stands among its worker's
abbrev pub rank_of : Job → ℕ → ℕ
rank_of b v = length (filter (λ u. nat_eq (b.owner v) (b.owner u)) (range_with_len 0 v))

abbrev pub up_at : Crew.World → ℕ → Option Worker
up_at w i = (w.worker i).up

abbrev pub EachBelow : ℕ → (ℕ → Type 0) → Type 0
EachBelow m f = AllByRecursion f (range_with_len 0 m)

abbrev pub MetAsOne : Job → Crew.World → Alone.Expected → Type 0
MetAsOne b w (state v s) = worker_and (up_at w (b.owner v)) (λ x. slice_index_or x.share.states (rank_of b v) [] ≡ s)
MetAsOne b w (letters v us) = worker_and (up_at w (b.owner v)) (λ x. map (λ (l : Letter). l.from) (letters_for v x.share.post) ≡ us)
MetAsOne b w (resting e) = EachBelow b.workers (λ i. worker_and (up_at w i) (λ x. all_true x.share.rests ≡ e))
MetAsOne b w (over e) = foreman_and w.foreman.up (λ f. f.over ≡ e)

abbrev pub Met : Job → Crew.World → Expected → Type 0
Met b w (as_one x) = MetAsOne b w x
Met b w (worker i k r) = worker_and (up_at w i) (λ x. (x.attempt ≡ k) × (x.round ≡ r))
Met b w (foreman k s nr) = foreman_and w.foreman.up (λ f. (f.attempt ≡ k) × (f.start ≡ s) × (f.noted ≡ nr))
Met b w (comes_to i j x c) = worker_and (up_at w i) (λ y. outcome_number (took b i (w.worker i).journal y j x).outcome ≡ c)

abbrev pub Holds : Row → Type 0
Holds (alone r) = Alone.Holds r
Holds (crew b es xs) = AllByRecursion (Met b (plays b es Crew.began)) xs
