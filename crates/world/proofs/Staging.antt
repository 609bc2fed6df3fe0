-- Calls and what befalls the message that is due next are events of the crew.
-- Assumes nothing.
use Rattle.std.proofs.Common.{◌≡◌, ℕ, ◌<◌, min, false, cond, nat_eq, nat_lt, ◌==◌, List, ◌∷◌, ◌++◌, length, get_or, set, take, drop, None, Ok, Err, Result, OnOk, is_ok, if◌then◌else◌, vec_items, deque_items, ap, sym, ◌∙◌}
use Rattle.std.proofs.lemmas.List.{drop-map, drop_min, map-append, take-map, take_min}
use Rattle.std.proofs.lemmas.Bool.{lt-ltb}
use Rattle.std.specs.List.{insert}
use Rattle.std.specs.Option.{option_map}
use Rattle.crew.specs.Job.{Job}
use Rattle.crew.specs.Journals as J
use Rattle.crew.specs.Messages as M
use Rattle.crew.specs.Messages.{foreman_line}
use Rattle.crew.specs.Worker as W
use Rattle.crew.specs.Stored.{parcel_of, parcels_of, records_of}
use Rattle.crew.specs.declared.message.Parcel.{Parcel}
use Rattle.runs.specs.Crew.{acts, with_underway, worker_acts, worker_falls, behind as behind_of}
use Rattle.runs.specs.World.{Call, Effect, after, put, worker_call}
use Rattle.workers.specs.Crewed.{worker_of}
use Rattle.world.specs.Paced.{desk_of}
use Rattle.world.specs.Seated.{Did, Seat, seat_at, seat_of}
use Rattle.world.specs.Staged.{Told, crew_of}
use Rattle.world.specs.declared.state.State.{State}
use Rattle.world.proofs.Seating.{in_seat, seat_at-set}

pub late_behind : (old rest new : List Parcel) (p : Parcel) (k place : ℕ) → old ≡ p ∷ rest → place ≡ min k (length rest) → new ≡ insert rest place p → parcels_of new ≡ behind_of k (parcels_of old)
late_behind old rest new p k place e at is =
    ap parcels_of (is ∙ ap (λ n. take n rest ++ p ∷ drop n rest) at ∙ (λ i. take_min k rest i ++ p ∷ drop_min k rest i))
    ∙ map-append parcel_of (take k rest) (p ∷ drop k rest)
    ∙ (λ i. sym (take-map parcel_of k rest) i ++ parcel_of p ∷ sym (drop-map parcel_of k rest) i)
    ∙ ap (λ l. behind_of k (parcels_of l)) (sym e)

-- WHO ACTS

pub at_worker : {X : Type 0} (j n : ℕ) (f w s : X) → false ≡ nat_eq j 64 → j < n → w ≡ cond (j == foreman_line) f (cond (nat_lt j n) w s)
at_worker j n f w s other lt = λ k. cond (other k) f (cond (sym (lt-ltb j n lt) k) w s)

-- the worker in seat i made a call, and says this behind ps
pub worker_told : (b : Job) (c : Call) (s : State) (i : ℕ) (x y : Seat) (ps says : List M.Parcel) → i < length (vec_items s.seats) → x ≡ get_or (vec_items s.seats) i x → Did b i c (seat_of x) (seat_of y) says →
    record { worker = seat_at (set (vec_items s.seats) i y); foreman = desk_of s.desk; underway = ps ++ says } ≡ worker_acts b i c ps (crew_of s)
worker_told b c s i x y ps says lt is did =
    let xs = vec_items s.seats in
    let here : seat_of x ≡ seat_at xs i = ap seat_of is ∙ sym (in_seat xs i x lt) in
    let effect : worker_call b i c (seat_of x).journal (seat_of x).up ≡ worker_call b i c (seat_at xs i).journal (seat_at xs i).up = λ k. worker_call b i c (here k).journal (here k).up in
    let new : seat_of y ≡ after (seat_at xs i) (worker_call b i c (seat_at xs i).journal (seat_at xs i).up) = did.machine ∙ (λ k. after (here k) (effect k)) in
    λ k. record { worker = (seat_at-set xs i y lt ∙ ap (λ m. put i m (seat_at xs)) new) k; foreman = desk_of s.desk; underway = ps ++ (did.says ∙ ap (λ (e : Effect W.Worker J.Record). e.says) effect) k }

-- the worker in seat i crashed
pub worker_fell : (s : State) (i : ℕ) (x y : Seat) → i < length (vec_items s.seats) → x ≡ get_or (vec_items s.seats) i x → y.up ≡ None → y.journal ≡ x.journal →
    record { worker = seat_at (set (vec_items s.seats) i y); foreman = desk_of s.desk; underway = (crew_of s).underway } ≡ worker_falls i (crew_of s)
worker_fell s i x y lt is down journal =
    let xs = vec_items s.seats in
    let here : seat_of x ≡ seat_at xs i = ap seat_of is ∙ sym (in_seat xs i x lt) in
    let new : seat_of y ≡ record { up = None; journal = (seat_at xs i).journal } = (λ k. record { up = option_map worker_of (down k); journal = records_of (vec_items (journal k).records) }) ∙ (λ k. record { up = None; journal = (here k).journal }) in
    λ k. record { worker = (seat_at-set xs i y lt ∙ ap (λ m. put i m (seat_at xs)) new) k; foreman = desk_of s.desk; underway = (crew_of s).underway }

-- what was said is under way
pub said_behind : (b : Job) (j : ℕ) (c : Call) (s t : State) (old new says : List Parcel) → Told b j c s t (parcels_of says) → old ≡ deque_items t.underway → new ≡ old ++ says →
    with_underway (crew_of t) (parcels_of new) ≡ acts b j c (crew_of s).underway (crew_of s)
said_behind b j c s t old new says told was is =
    ap (with_underway (crew_of t)) (ap parcels_of is ∙ map-append parcel_of old says ∙ ap (λ l. parcels_of l ++ parcels_of says) (was ∙ told.underway))
    ∙ told.crew (crew_of s).underway

pub on_ok_if : {X E A : Type 0} (r : Result X E) (x a b : A) → x ≡ (if is_ok r then a else b) → OnOk r (x ≡ a)
on_ok_if (Ok v) x a b e = e
on_ok_if (Err v) x a b e = tt
