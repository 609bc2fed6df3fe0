-- Seats in a row, of which one changes.
-- Assumes nothing.
use Rattle.std.proofs.Common.{◌≡◌, ℕ, zero, suc, ◌<◌, Bool, true, false, cond, eqb, List, [], ◌∷◌, map, length, get_or, set, Some, None, Option, sym, refl, ap, ◌∙◌, subst, arith}
use lib.ListN.{length-map}
use Rattle.std.proofs.lemmas.List.{get_or-map, get_or-set_other, get_or-set_same, map-set}
use Rattle.std.proofs.lemmas.Bool.{eqb-true, eqb-false}
use Rattle.std.proofs.lemmas.Option.{none-some}
use Rattle.std.specs.List.{All}
use Rattle.std.specs.Option.{option_map}
use Rattle.crew.specs.Stored.{records_of}
use Rattle.workers.specs.Crewed.{worker_of}
use Rattle.crew.specs.declared.partition.Partition.{Partition}
use Rattle.runs.specs.World.{put}
use Rattle.workers.specs.declared.worker.Worker.{Worker}
use Rattle.world.specs.Seated.{IsNew, Seat, Seated, Sits, nobody, seat_at, seat_of, worker_at}

-- who sits in seat i
pub at_seat : (xs : List Seat) (i : ℕ) (d : Seat) → i < length xs → worker_at xs i ≡ (get_or xs i d).up
at_seat xs i d lt = get_or-map (λ (s : Seat). s.up) xs i d None lt

pub in_seat : (xs : List Seat) (i : ℕ) (d : Seat) → i < length xs → seat_at xs i ≡ seat_of (get_or xs i d)
in_seat xs i d lt = get_or-map seat_of xs i d nobody lt

-- what is read of the row with another in seat i
pub get_or-map-set : {X Y : Type 0} (f : X → Y) (xs : List X) (i j : ℕ) (x : X) (d : Y) → i < length xs → get_or (map f (set xs i x)) j d ≡ cond (eqb j i) (f x) (get_or (map f xs) j d)
get_or-map-set f xs i j x d lt = ap (λ l. get_or l j d) (map-set f xs i x) ∙ go (eqb j i) refl
  where
    long : i < length (map f xs)
    long = subst (λ n. i < n) (sym (length-map xs f)) lt

    go : (e : Bool) → eqb j i ≡ e → get_or (set (map f xs) i (f x)) j d ≡ cond e (f x) (get_or (map f xs) j d)
    go true e = ap (λ k. get_or (set (map f xs) i (f x)) k d) (eqb-true j i e) ∙ get_or-set_same (map f xs) i (f x) d long
    go false e = get_or-set_other (map f xs) i j (f x) d (eqb-false j i e)

pub seat_at-set : (xs : List Seat) (i : ℕ) (y : Seat) → i < length xs → seat_at (set xs i y) ≡ put i (seat_of y) (seat_at xs)
seat_at-set xs i y lt = λ k j. get_or-map-set seat_of xs i j y nobody lt k

pub seated_set : (t : Partition) (xs : List Seat) (i : ℕ) (y : Seat) → i < length xs → Seated t xs → Sits t i y.up → Seated t (set xs i y)
seated_set t xs i y lt h sits k = subst (Sits t k) (sym (get_or-map-set (λ (s : Seat). s.up) xs i k y None lt)) (go (eqb k i) refl)
  where
    go : (e : Bool) → eqb k i ≡ e → Sits t k (cond e y.up (worker_at xs k))
    go true e = subst (λ j. Sits t j y.up) (sym (eqb-true k i e)) sits
    go false e = h k

-- WHERE NOBODY WAS EVER UP

get_or-map-all : {X Y : Type 0} (f : X → Y) (P : X → Type 0) (d : Y) → ((x : X) → P x → f x ≡ d) → (xs : List X) → All P xs → (k : ℕ) → get_or (map f xs) k d ≡ d
get_or-map-all f P d e [] h k = refl
get_or-map-all f P d e (x ∷ xs) h zero = e x (h 0 x (omega arith))
get_or-map-all f P d e (x ∷ xs) h (suc k) = get_or-map-all f P d e xs (λ j c lt. h (suc j) c (omega (arith, lt))) k

pub new_seats : (xs : List Seat) → All IsNew xs → seat_at xs ≡ (λ i. nobody)
new_seats xs h = λ t k. get_or-map-all seat_of IsNew nobody (λ s e i. record { up = option_map worker_of (e.0 i); journal = records_of (e.1 i) }) xs h k t

pub nobody_sits : (t : Partition) (i : ℕ) (o : Option Worker) → o ≡ None → Sits t i o
nobody_sits t i o down x e = absurd (none-some x (sym down ∙ e))

pub new_seated : (t : Partition) (xs : List Seat) → All IsNew xs → Seated t xs
new_seated t xs h k = nobody_sits t k (worker_at xs k) (get_or-map-all (λ (s : Seat). s.up) IsNew None (λ s e. e.0) xs h k)

-- WHO IS UP

pub get_up : (xs : List Seat) (i : ℕ) → option_map worker_of (worker_at xs i) ≡ (seat_at xs i).up
get_up [] i = refl
get_up (x ∷ xs) zero = refl
get_up (x ∷ xs) (suc i) = get_up xs i

-- past the last seat nobody is
pub within : (xs : List Seat) (i : ℕ) (x : Worker) → Some x ≡ worker_at xs i → i < length xs
within [] i x e = absurd (none-some x (sym e))
within (y ∷ xs) zero x e = omega arith
within (y ∷ xs) (suc i) x e = omega (arith, within xs i x e)
