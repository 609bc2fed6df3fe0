-- Lines of a crew: those that are judged good are the stretches and the events of a proper script.
use Rattle.std.proofs.Common.{◌≡◌, ℕ, ◌<◌, Bool, true, false, ◌&&◌, eqb, ltb, List, [], ◌∷◌, ◌++◌, map, Some, None, Ok, Err, Option, Result, refl, ap, ◌∙◌, arith}
use Rattle.std.specs.List.{flat_map}
use Rattle.std.specs.Option.{is_some}
use Rattle.std.proofs.lemmas.Bool.{ltb-true, eqb-true, lt-ltb, eq-eqb, and_from}
use Rattle.crew_script.specs.declared.settings.Span.{Span}
use Rattle.crew_script.specs.declared.settings.Event.{Event}
use Rattle.crew_script.specs.declared.complaints.Expected.{Expected}
use Rattle.crew_script.specs.declared.given.Given.{Given}
use Rattle.crew_script.specs.declared.statements.Statement.{Statement}
use Rattle.crew_script.specs.declared.statements.Statement.TheVariants.{Lone, Workers, Owner, Happens}
use Rattle.crew_script.specs.Given.{follows_at, places_of, there, workers_of}
use Rattle.crew_script.specs.Proper.{AllThere, Rising, Shared, happens_in, owners_in}
use Rattle.crew_script.specs.Script.{events_of, good_of, listed, stretches_of}

pub and_both : (a b : Bool) → (a && b) ≡ true → (a ≡ true) × (b ≡ true)
and_both true b e = (refl, e)
and_both false b e = absurd (let z : ◌≡◌ {A = ℕ} 0 1 = cc in omega arith)

-- as `fitting` has it: o is the first place of the stretch before, if there is one
abbrev pub fits : (all : Given) → (o : Option ℕ) → Span → Bool
fits all o x = follows_at o x && (ltb x.first (places_of all) && ltb x.worker (workers_of all))

abbrev pub OwnersFit : (all : Given) → (o : Option ℕ) → List (Result Span Expected) → Type 0
OwnersFit all o [] = Unit {0}
OwnersFit all o (Err e ∷ xs) = ⊥
OwnersFit all o (Ok x ∷ xs) = (is_some all.workers ≡ true) × (fits all o x ≡ true) × OwnersFit all (Some x.first) xs

abbrev pub HappensFit : (all : Given) → List (Result Event Expected) → Type 0
HappensFit all [] = Unit {0}
HappensFit all (Err e ∷ es) = ⊥
HappensFit all (Ok e ∷ es) = (is_some all.workers ≡ true) × (there (workers_of all) e ≡ true) × HappensFit all es

abbrev pub oks : {X : Type 0} → List (Result X Expected) → List X
oks [] = []
oks (r ∷ rs) = listed (good_of r) ++ oks rs

pub stretches_are : (ss : List Statement) → flat_map stretches_of ss ≡ oks (flat_map owners_in ss)
stretches_are [] = refl
stretches_are (Lone st ∷ ss) = stretches_are ss
stretches_are (Workers m ∷ ss) = stretches_are ss
stretches_are (Owner x ∷ ss) = ap (λ xs. listed (good_of x) ++ xs) (stretches_are ss)
stretches_are (Happens e ∷ ss) = stretches_are ss

pub events_are : (ss : List Statement) → flat_map events_of ss ≡ oks (flat_map happens_in ss)
events_are [] = refl
events_are (Lone st ∷ ss) = events_are ss
events_are (Workers m ∷ ss) = events_are ss
events_are (Owner x ∷ ss) = events_are ss
events_are (Happens e ∷ ss) = ap (λ es. listed (good_of e) ++ es) (events_are ss)

pub oks_map : {X : Type 0} (xs : List X) → oks (map (λ x. Ok x) xs) ≡ xs
oks_map [] = refl
oks_map (x ∷ xs) = ap (λ ys. x ∷ ys) (oks_map xs)

module _ (all : Given) where
  pub owners_ok : (o : Option ℕ) (xs : List (Result Span Expected)) → OwnersFit all o xs → xs ≡ map (λ x. Ok x) (oks xs)
  owners_ok o [] t = refl
  owners_ok o (Err e ∷ xs) t = absurd t
  owners_ok o (Ok x ∷ xs) t = ap (λ ys. Ok x ∷ ys) (owners_ok (Some x.first) xs t.2)

  pub happens_ok : (es : List (Result Event Expected)) → HappensFit all es → es ≡ map (λ e. Ok e) (oks es)
  happens_ok [] t = refl
  happens_ok (Err e ∷ es) t = absurd t
  happens_ok (Ok e ∷ es) t = ap (λ ys. Ok e ∷ ys) (happens_ok es t.2)

  -- there are none where there is no crew
  pub no_owners : is_some all.workers ≡ false → (o : Option ℕ) (xs : List (Result Span Expected)) → OwnersFit all o xs → xs ≡ []
  no_owners none o [] t = refl
  no_owners none o (Err e ∷ xs) t = absurd t
  no_owners none o (Ok x ∷ xs) t = absurd (let h = t.0 in let z : ◌≡◌ {A = ℕ} 0 1 = cc in omega arith)

  pub no_events : is_some all.workers ≡ false → (es : List (Result Event Expected)) → HappensFit all es → es ≡ []
  no_events none [] t = refl
  no_events none (Err e ∷ es) t = absurd t
  no_events none (Ok e ∷ es) t = absurd (let h = t.0 in let z : ◌≡◌ {A = ℕ} 0 1 = cc in omega arith)

  pub rising : (f : ℕ) (xs : List (Result Span Expected)) → OwnersFit all (Some f) xs → Rising (places_of all) (workers_of all) f (oks xs)
  rising f [] t = tt
  rising f (Err e ∷ xs) t = absurd t
  rising f (Ok x ∷ xs) t =
      let p = and_both (ltb f x.first) _ t.1 in
      let q = and_both (ltb x.first (places_of all)) _ p.1 in
      (ltb-true f x.first p.0, ltb-true _ _ q.0, ltb-true _ _ q.1, rising x.first xs t.2)

  pub shared : (xs : List (Result Span Expected)) → OwnersFit all None xs → Shared (places_of all) (workers_of all) (oks xs)
  shared [] t = tt
  shared (Err e ∷ xs) t = absurd t
  shared (Ok x ∷ xs) t =
      let p = and_both (eqb x.first 0) _ t.1 in
      let q = and_both (ltb x.first (places_of all)) _ p.1 in
      (eqb-true x.first 0 p.0, ltb-true _ _ q.0, ltb-true _ _ q.1, rising x.first xs t.2)

  pub all_there : (es : List (Result Event Expected)) → HappensFit all es → AllThere (workers_of all) (oks es)
  all_there [] t = tt
  all_there (Err e ∷ es) t = absurd t
  all_there (Ok e ∷ es) t = (t.1, all_there es t.2)

  -- and those of a proper script fit
  module _ (yes : is_some all.workers ≡ true) (n m : ℕ) (np : places_of all ≡ n) (mp : workers_of all ≡ m) where
    fits_is : (b : Bool) (x : Span) → b ≡ true → x.first < n → x.worker < m → (b && (ltb x.first (places_of all) && ltb x.worker (workers_of all))) ≡ true
    fits_is b x e h k = and_from _ _ e (and_from _ _ (lt-ltb x.first (places_of all) (omega (arith, h, np))) (lt-ltb x.worker (workers_of all) (omega (arith, k, mp))))

    rising_fits : (f : ℕ) (xs : List Span) → Rising n m f xs → OwnersFit all (Some f) (map (λ x. Ok x) xs)
    rising_fits f [] t = tt
    rising_fits f (x ∷ xs) t = (yes, fits_is (ltb f x.first) x (lt-ltb f x.first t.0) t.1 t.2, rising_fits x.first xs t.3)

    pub shared_fits : (xs : List Span) → Shared n m xs → OwnersFit all None (map (λ x. Ok x) xs)
    shared_fits [] t = tt
    shared_fits (x ∷ xs) t = (yes, fits_is (eqb x.first 0) x (eq-eqb x.first 0 t.0) t.1 t.2, rising_fits x.first xs t.3)

    pub there_fits : (es : List Event) → AllThere m es → HappensFit all (map (λ e. Ok e) es)
    there_fits [] t = tt
    there_fits (e ∷ es) t = (yes, ap (λ k. there k e) mp ∙ t.0, there_fits es t.1)
