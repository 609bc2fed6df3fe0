use Rattle.std.proofs.Common.{◌≡◌, ℕ, ◌+◌, ◌≤◌, arith, IfOk, vec_len, vec_capacity, List, [], ◌∷◌, ◌++◌, map, length, rules, sym, ap, ◌∙◌, subst, Ok, Err, Result, Option, None, vec_items, Vec, Global}
use Rattle.std.specs.Fn.{Called}
use Rattle.std.specs.Iterator.{AlwaysYields, TryCollects, Yields}
use Rattle.std.specs.Iterator.Adapters.{map_source, map_callee}
use Rattle.std.specs.List.{FoldsTo}
use Rattle.std.specs.declared.alloc.AllocError.{AllocError}
use Rattle.std.specs.declared.iter.Map.{Map}
use Rattle.std.proofs.lemmas.Iterator.{maps, YieldsList, YieldsList-from_range}
use Rattle.std.proofs.lemmas.List.{map_push, append_assoc, append-nil}
use denote.Param.Members.{Mut}
use Rattle.crew.specs.Messages as M
use Rattle.crew.specs.Stored.{message_of, parcel_of, parcels_of}
use Rattle.crew.specs.declared.message.Parcel.{Parcel}
use Rattle.crew.proofs.foreman.calls.to_all.Goals as goal

Adds : Vec Parcel Global → Result Parcel AllocError → Vec Parcel Global → Type 0
Adds v x w = (y : Parcel) × (Ok y ≡ x) × ((vec_items w ≡ vec_items v ++ y ∷ []) × (vec_len w ≡ vec_len v + length (y ∷ [])) × (vec_capacity v ≤ vec_capacity w))

module _ {S A F : Type 0} (steps : S → Option A → S → Type 0) (v : A → ℕ) (g : Mut F (A × Unit {0}) (Result Parcel AllocError)) (f : F) (said : ℕ → M.Parcel)
    (makes : (x : A) (r : Result Parcel AllocError) (q : F) → Called g f (x, tt) r q → (q ≡ f) × IfOk r (λ p. parcel_of p ≡ said (v x))) where
  -- what each call made is added, one after the other
  added : (ys : List ℕ) (xs : List (Result Parcel AllocError)) (s t u : Map S F) (a b : Vec Parcel Global) → AlwaysYields steps v (map_source s) ys → map_callee s ≡ f
      → Yields (maps steps g) s xs t → maps steps g t None u → FoldsTo Adds a xs b → parcels_of (vec_items b) ≡ parcels_of (vec_items a) ++ map said ys
  unfolding Adds
  added [] [] s t u a b road same run end fold = ap (λ (w : Vec Parcel Global). parcels_of (vec_items w)) (sym fold) ∙ sym (append-nil (parcels_of (vec_items a)))
  added [] (x ∷ xs) s t u a b road same run end fold = absurd (road run.1.0 (map_source run.0) run.1.1)
  added (y ∷ ys) [] s t u a b road same run end fold = absurd (road.0 (map_source u) (subst (λ k. steps (map_source k) None (map_source u)) (sym run) end.0))
  added (y ∷ ys) (x ∷ xs) s t u a b road same run end fold =
      let call = run.1 in
      let next = road.1 call.0 (map_source run.0) call.1 in
      let made = makes call.0 x (map_callee run.0) (subst (λ k. Called g k (call.0, tt) x (map_callee run.0)) same call.2) in
      let parcel : Parcel = fold.1.0 in
      let one : parcel_of parcel ≡ said y = subst (λ (r : Result Parcel AllocError). IfOk r (λ p. parcel_of p ≡ said (v call.0))) (sym fold.1.1) made.1 ∙ ap said next.0 in
      added ys xs run.0 t u fold.0 b next.1 made.0 run.2 end fold.2
      ∙ ap (λ ps. parcels_of ps ++ map said ys) fold.1.2.0
      ∙ ap (λ ps. ps ++ map said ys) (map_push parcel_of (vec_items a) parcel)
      ∙ append_assoc (parcels_of (vec_items a)) (parcel_of parcel ∷ []) (map said ys)
      ∙ ap (λ p. parcels_of (vec_items a) ++ p ∷ map said ys) one

  -- what is collected is what was said
  collected : {s : Map S F} {ys : List ℕ} (r : Result (Vec Parcel Global) AllocError)
      → IfOk r (TryCollects (maps steps g) (λ x y. y ≡ x) (λ xs w. (vec_items w ≡ xs) × (vec_len w ≡ length xs)) (λ a xs w. (vec_items w ≡ vec_items a ++ xs) × (vec_len w ≡ vec_len a + length xs) × (vec_capacity a ≤ vec_capacity w)) s)
      → YieldsList steps v (map_source s) ys → map_callee s ≡ f → IfOk r (λ w. parcels_of (vec_items w) ≡ map said ys)
  unfolding Adds
  collected {s} {ys} (Ok w) h road same = added ys h.0 s h.2.1.0 h.2.0 h.1 w road.runs same h.2.1.1 h.2.1.2 h.4 ∙ ap (λ ps. parcels_of ps ++ map said ys) h.3.0
  collected (Err e) h road same = tt

pub returns : goal.returns
returns c =
    let said : ℕ → M.Parcel = λ j. record { from = 64; to = j; message = message_of c.args.kind [] } in
    collected _ (λ x. x) _ _ said (λ x r q k. (search rules, search rules)) c.try_collect.result c.try_collect.ensures.ran (YieldsList-from_range 0 c.args.workers c.args.workers (cc) (omega arith)) c.map.ensures.closure
