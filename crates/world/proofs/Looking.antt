-- What is seen of a place is what the meaning says.
-- Assumes nothing.
use Rattle.std.proofs.Common.{◌≡◌, ℕ, ◌<◌, Bool, false, List, [], length, get_or, Some, vec_items, sym, ap, ◌∙◌, subst, arith}
use lib.ListN.{length-map}
use Rattle.std.proofs.lemmas.List.{get_or-map}
use Rattle.std.specs.Option.{option_map}
use Rattle.meaning.specs.Meaning.{Program}
use Rattle.crew.proofs.Owners.{proper}
use Rattle.crew.specs.Job.{meant, places_of}
use Rattle.crew.specs.Shared.{job_of}
use Rattle.runs.proofs.Leading.{shown}
use Rattle.workers.specs.Crewed.{share_in, worker_of}
use Rattle.workers.specs.Mine.{mine_of}
use Rattle.workers.specs.declared.worker.Worker.{Worker}
use Rattle.world.specs.Looks.{Reached}
use Rattle.world.specs.Seated.{worker_at}
use Rattle.world.specs.Staged.{crew_of}
use Rattle.world.specs.declared.state.State.{State}
use Rattle.world.proofs.Seating.{get_up, within}
use Rattle.world.proofs.Calling.{job_same}

-- who is up on line i has the places of worker i
pub mine_same : (q : Program) (s : State) (i : ℕ) (x : Worker) → Some x ≡ worker_at (vec_items s.seats) i → mine_of x.station.table x.station.me.0 ≡ places_of (job_of s.table q) i
mine_same q s i x some = let sits = s.seated i x (sym some) in λ t. places_of (job_same x.station.table s.table q sits.1 t) (sits.0 t)

-- of place p, which is the k-th that worker i has
pub look_meant : (q : Program) (s : State) (i k : ℕ) (x : Worker) (p round : ℕ) (bytes : List ℕ) (rests : Bool) →
    Reached q s → Some x ≡ worker_at (vec_items s.seats) i →
    p ≡ get_or (mine_of x.station.table x.station.me.0) k 0 → k < length (share_in x).states → bytes ≡ get_or (share_in x).states k [] → rests ≡ get_or (share_in x).rests k false → round ≡ x.round.0 →
    (bytes ≡ (meant (job_of s.table q) round).state p) × (rests ≡ (meant (job_of s.table q) round).rests p)
look_meant q s i k x p round bytes rests led some at kl eb er eround =
    let b = job_of s.table q in
    let xs = vec_items s.seats in
    let below : i < s.table.workers = omega (arith, s.many, s.seats.ok.0, within xs i x some) in
    let up : ((crew_of s).worker i).up ≡ Some (worker_of x) = sym (get_up xs i) ∙ ap (option_map worker_of) (sym some) in
    let sight = shown b (proper s.table q) (crew_of s) led i below (worker_of x) up in
    let here : p ≡ get_or (places_of b i) k 0 = at ∙ ap (λ l. get_or l k 0) (mine_same q s i x some) in
    let kp : k < length (places_of b i) = subst (λ n. k < n) (ap length sight.0 ∙ length-map (places_of b i) (meant b x.round.0).state) kl in (
      eb ∙ ap (λ l. get_or l k []) sight.0 ∙ get_or-map (meant b x.round.0).state (places_of b i) k 0 [] kp ∙ (λ t. (meant b (sym eround t)).state (sym here t)),
      er ∙ ap (λ l. get_or l k false) sight.1 ∙ get_or-map (meant b x.round.0).rests (places_of b i) k 0 false kp ∙ (λ t. (meant b (sym eround t)).rests (sym here t)),
    )
