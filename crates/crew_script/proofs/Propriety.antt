-- A text comes to a good script if and only if it is a proper one.
use Rattle.std.proofs.Common.{◌≡◌, ℕ, ◌≤◌, Bool, true, false, cond, not, ◌&&◌, ◌||◌, List, [], ◌∷◌, ◌++◌, map, length, Some, None, Ok, Err, Option, Result, sym, refl, ap, ◌∙◌, subst, append-nil, arith, length-append}
use Rattle.std.specs.List.{flat_map}
use Rattle.std.specs.Option.{is_some}
use Rattle.script.specs.declared.settings.Choice.{Choice}
use Rattle.script.specs.declared.settings.Choice.TheVariants.{Sum}
use Rattle.script.specs.declared.complaints.Complaint.{Complaint}
use Rattle.script.specs.declared.complaints.Expected as script_expected
use Rattle.script.specs.declared.complaints.Expected.TheVariants.{Once, PlacesLine, PlanLine}
use Rattle.script.specs.declared.lines.Position.{Position}
use Rattle.script.specs.declared.statements.Statement as script_statement
use Rattle.script.specs.declared.statements.Statement.TheVariants.{Nothing, Unknown, Places, Plan, Alone}
use Rattle.script.specs.Given as script
use Rattle.script.specs.Given.{first_of, given_or, once}
use Rattle.script.specs.Lines.{lines_in}
use Rattle.script.specs.Reading.{bad, good, lacking, noted, outcome}
use Rattle.script.specs.Text.{lines_of}
use Rattle.script.proofs.Lining.{map_placed}
use Rattle.script.proofs.Once.{IsGood, at_once, end_once, good_once, none_once, on_once, said, said_end, set_is}
use Rattle.script.proofs.Propriety.{bad_is, nil_parts, no_complaint, none_noted}
use Rattle.crew_script.specs.declared.settings.Span.{Span}
use Rattle.crew_script.specs.declared.settings.Event.{Event}
use Rattle.crew_script.specs.declared.complaints.Expected.{Expected}
use Rattle.crew_script.specs.declared.complaints.Expected.TheVariants as expected
use Rattle.crew_script.specs.declared.complaints.Expected.TheVariants.{CrewLine, CrewOnce, OneRun, OwnerSettings, RunLine}
use Rattle.crew_script.specs.declared.given.Given.{Given}
use Rattle.crew_script.specs.declared.statements.Statement.{Statement}
use Rattle.crew_script.specs.declared.statements.Statement.TheVariants.{Lone, Workers, Owner, Happens}
use Rattle.crew_script.specs.Asked.{Asked, Players, lone, crew}
use Rattle.crew_script.specs.Given.{added_to, asked_by, asked_with, fault_of, fitting, places_of, players_by, players_with, run_in, script_in, there, turned, unsaid, workers_of}
use Rattle.crew_script.specs.Proper.{Cast, Judged, Known, Proper, Shared, AllThere, alones_in, happens_in, owners_in, places_in, plans_in, workers_in}
use Rattle.crew_script.specs.Saying.{said_in}
use Rattle.crew_script.specs.Script.{all_of, complaints_of, events_of, faults_from, given_by, missing, outcome_of, statements_of, stretches_of}
use Rattle.crew_script.proofs.Stretches.{HappensFit, OwnersFit, all_there, events_are, happens_ok, no_events, no_owners, oks, oks_map, owners_ok, shared, shared_fits, stretches_are, there_fits}

-- the statements of lines, wherever these lie
abbrev pub said_all : List (Position × List ℕ) → List Statement
said_all ls = map (λ l. said_in l.1) ls

pub said_where : (text : List ℕ) → said_all (lines_in text) ≡ statements_of text
said_where text = map_placed said_in 1 0 (lines_of text)

ok_turned : (r : Result (Unit {0}) script_expected.Expected) → turned r ≡ Ok tt → r ≡ Ok tt
ok_turned (Ok u) e = refl
ok_turned (Err x) e = absurd (let z : ◌≡◌ {A = ℕ} 0 1 = cc in omega arith)

ok_unless : (b : Bool) (x : Expected) (r : Result (Unit {0}) Expected) → cond b (Err x) r ≡ Ok tt → (b ≡ false) × (r ≡ Ok tt)
ok_unless true x r e = absurd (let z : ◌≡◌ {A = ℕ} 0 1 = cc in omega arith)
ok_unless false x r e = (refl, e)

ok_where : (b : Bool) (x : Expected) (r : Result (Unit {0}) Expected) → cond b r (Err x) ≡ Ok tt → (b ≡ true) × (r ≡ Ok tt)
ok_where true x r e = (refl, e)
ok_where false x r e = absurd (let z : ◌≡◌ {A = ℕ} 0 1 = cc in omega arith)

neither : (b : Bool) (x y : Expected) → ◌≡◌ {A = Result (Unit {0}) Expected} (cond b (Err x) (Err y)) (Ok tt) → ⊥
neither true x y e = let z : ◌≡◌ {A = ℕ} 0 1 = cc in omega arith
neither false x y e = let z : ◌≡◌ {A = ℕ} 0 1 = cc in omega arith

-- all settings that were given, and are still given, are these, and the lines of a crew fit
abbrev Adds : (all g : Given) → List Statement → List (Result ℕ script_expected.Expected) → List (Result Choice script_expected.Expected) → List (Result ℕ script_expected.Expected) → List (Result ℕ Expected) → Type 0
Adds all g ss ns ps rs ws =
    (said g.lone.places ++ flat_map places_in ss ≡ ns) × (said g.lone.plan ++ flat_map plans_in ss ≡ ps) × (said g.lone.alone ++ flat_map alones_in ss ≡ rs) × (said g.workers ++ flat_map workers_in ss ≡ ws)
    × Known ss × OwnersFit all g.last (flat_map owners_in ss) × HappensFit all (flat_map happens_in ss)

abbrev IsClean : Given → Type 0
IsClean g = IsGood g.lone.places × IsGood g.lone.plan × IsGood g.lone.alone × IsGood g.workers

-- `alone` and `workers` do not both come with no fault
abbrev Apart : Given → Type 0
Apart g = (is_some g.lone.alone && is_some g.workers) ≡ false

module _ (all : Given) where
  module _ (ss : List Statement) (ns : List (Result ℕ script_expected.Expected)) (ps : List (Result Choice script_expected.Expected)) (rs : List (Result ℕ script_expected.Expected)) (ws : List (Result ℕ Expected)) where
    at_lone : (g : Given) (st : script_statement.Statement) → script.fault_of g.lone st ≡ Ok tt → Adds all (added_to g (Lone st)) ss ns ps rs ws → Adds all g (Lone st ∷ ss) ns ps rs ws
    at_lone g Nothing e t = (t.0, t.1, t.2, t.3, (tt, t.4), t.5, t.6)
    at_lone g Unknown e t = absurd (let z : ◌≡◌ {A = ℕ} 0 1 = cc in omega arith)
    at_lone g (Places n) e t = (at_once Once g.lone.places n (flat_map places_in ss) ns e t.0, t.1, t.2, t.3, (tt, t.4), t.5, t.6)
    at_lone g (Plan p) e t = (t.0, at_once Once g.lone.plan p (flat_map plans_in ss) ps e t.1, t.2, t.3, (tt, t.4), t.5, t.6)
    at_lone g (Alone r) e t = (t.0, t.1, at_once Once g.lone.alone r (flat_map alones_in ss) rs e t.2, t.3, (tt, t.4), t.5, t.6)

    -- a line with no fault says what it adds
    at_line : (g : Given) (st : Statement) → fault_of all g st ≡ Ok tt → Adds all (added_to g st) ss ns ps rs ws → Adds all g (st ∷ ss) ns ps rs ws
    at_line g (Lone st) e t = at_lone g st (ok_turned (script.fault_of g.lone st) (ok_unless _ _ _ e).1) t
    at_line g (Workers m) e t = (t.0, t.1, t.2, at_once CrewOnce g.workers m (flat_map workers_in ss) ws (ok_unless _ _ _ e).1 t.3, (tt, t.4), t.5, t.6)
    at_line g (Owner (Err x)) e t = absurd (neither (is_some all.workers) _ _ e)
    at_line g (Owner (Ok x)) e t =
        let q = ok_where (is_some all.workers) _ _ e in
        let f = ok_where (fitting all g x) _ _ q.1 in
        (t.0, t.1, t.2, t.3, (tt, t.4), (q.0, f.0, t.5), t.6)
    at_line g (Happens (Err x)) e t = absurd (neither (is_some all.workers) _ _ e)
    at_line g (Happens (Ok x)) e t =
        let q = ok_where (is_some all.workers) _ _ e in
        let f = ok_where (there (workers_of all) x) _ _ q.1 in
        (t.0, t.1, t.2, t.3, (tt, t.4), t.5, (q.0, f.0, t.6))

  clean_lone : (g : Given) (st : script_statement.Statement) → script.fault_of g.lone st ≡ Ok tt → IsClean g → IsClean (added_to g (Lone st))
  clean_lone g Nothing e t = t
  clean_lone g Unknown e t = t
  clean_lone g (Places n) e t = (good_once Once g.lone.places n e, t.1, t.2, t.3)
  clean_lone g (Plan p) e t = (t.0, good_once Once g.lone.plan p e, t.2, t.3)
  clean_lone g (Alone r) e t = (t.0, t.1, good_once Once g.lone.alone r e, t.3)

  clean_line : (g : Given) (st : Statement) → fault_of all g st ≡ Ok tt → IsClean g → IsClean (added_to g st)
  clean_line g (Lone st) e t = clean_lone g st (ok_turned (script.fault_of g.lone st) (ok_unless _ _ _ e).1) t
  clean_line g (Workers m) e t = (t.0, t.1, t.2, good_once CrewOnce g.workers m (ok_unless _ _ _ e).1)
  clean_line g (Owner x) e t = t
  clean_line g (Happens x) e t = t

  apart_alone : (a : Option (Result ℕ script_expected.Expected)) (w : Bool) (r : Result ℕ script_expected.Expected) → (not (is_some a) && w) ≡ false → once Once a r ≡ Ok tt → w ≡ false
  apart_alone None w r h e = h
  apart_alone (Some y) w r h e = absurd (let z : ◌≡◌ {A = ℕ} 0 1 = cc in omega arith)

  apart_workers : (w : Option (Result ℕ Expected)) (a : Bool) (m : Result ℕ Expected) → (not (is_some w) && a) ≡ false → once CrewOnce w m ≡ Ok tt → (a && true) ≡ false
  apart_workers None true m h e = h
  apart_workers None false m h e = refl
  apart_workers (Some y) a m h e = absurd (let z : ◌≡◌ {A = ℕ} 0 1 = cc in omega arith)

  apart_lone : (g : Given) (st : script_statement.Statement) → fault_of all g (Lone st) ≡ Ok tt → Apart g → Apart (added_to g (Lone st))
  apart_lone g Nothing e h = h
  apart_lone g Unknown e h = h
  apart_lone g (Places n) e h = h
  apart_lone g (Plan p) e h = h
  apart_lone g (Alone r) e h =
      let q = ok_unless (not (is_some g.lone.alone) && is_some g.workers) OneRun (turned (once Once g.lone.alone r)) e in
      apart_alone g.lone.alone (is_some g.workers) r q.0 (ok_turned (once Once g.lone.alone r) q.1)

  apart_line : (g : Given) (st : Statement) → fault_of all g st ≡ Ok tt → Apart g → Apart (added_to g st)
  apart_line g (Lone st) e h = apart_lone g st e h
  apart_line g (Workers m) e h = let q = ok_unless (not (is_some g.workers) && is_some g.lone.alone) _ _ e in apart_workers g.workers (is_some g.lone.alone) m q.0 q.1
  apart_line g (Owner x) e h = h
  apart_line g (Happens x) e h = h

  faultless : (g : Given) (ls : List (Position × List ℕ)) → faults_from all g ls ≡ [] → IsClean g → Apart g →
      Adds all g (said_all ls) (said (given_by g ls).lone.places) (said (given_by g ls).lone.plan) (said (given_by g ls).lone.alone) (said (given_by g ls).workers) × IsClean (given_by g ls) × Apart (given_by g ls)
  faultless g [] e t h = ((said_end g.lone.places, said_end g.lone.plan, said_end g.lone.alone, said_end g.workers, tt, tt, tt), t, h)
  faultless g (l ∷ ls) e t h =
      let p = nil_parts (noted (Some l.0) (fault_of all g (said_in l.1))) (faults_from all (added_to g (said_in l.1)) ls) e in
      let f = none_noted (Some l.0) (fault_of all g (said_in l.1)) p.0 in
      let q = faultless (added_to g (said_in l.1)) ls p.1 (clean_line g (said_in l.1) f t) (apart_line g (said_in l.1) f h) in
      let d = given_by g (l ∷ ls) in
      (at_line (said_all ls) (said d.lone.places) (said d.lone.plan) (said d.lone.alone) (said d.workers) g (said_in l.1) f q.0, q.1, q.2)

run_given : (b : Bool) (e : Expected) → lacking {X = Unit {0}} (cond b (Some tt) None) e ≡ [] → b ≡ true
run_given true e h = refl
run_given false e h = absurd (let z : ◌≡◌ {A = ℕ} 0 1 = cc in omega arith)

-- who plays, as all lines give it
cast : (all : Given) (ss : List Statement) (n : ℕ) → places_of all ≡ n → (a : Option (Result ℕ script_expected.Expected)) (w : Option (Result ℕ Expected)) → all.workers ≡ w →
    (is_some a || is_some w) ≡ true → (is_some a && is_some w) ≡ false → IsGood a → IsGood w → flat_map alones_in ss ≡ said a → flat_map workers_in ss ≡ said w →
    OwnersFit all None (flat_map owners_in ss) → HappensFit all (flat_map happens_in ss) → Cast ss n (players_by w a (flat_map stretches_of ss) (flat_map events_of ss))
cast all ss n np None None we some apart ga gw fa fw o h = absurd (let z : ◌≡◌ {A = ℕ} 0 1 = cc in omega arith)
cast all ss n np (Some (Err x)) None we some apart ga gw fa fw o h = absurd ga
cast all ss n np (Some (Ok r)) None we some apart ga gw fa fw o h = (fa, fw, no_owners all (ap is_some we) None (flat_map owners_in ss) o, no_events all (ap is_some we) (flat_map happens_in ss) h)
cast all ss n np (Some x) (Some y) we some apart ga gw fa fw o h = absurd (let z : ◌≡◌ {A = ℕ} 0 1 = cc in omega arith)
cast all ss n np None (Some (Err x)) we some apart ga gw fa fw o h = absurd gw
cast all ss n np None (Some (Ok m)) we some apart ga gw fa fw o h =
    let mp : workers_of all ≡ m = ap (given_or 8) we in (
      fa,
      fw,
      owners_ok all None (flat_map owners_in ss) o ∙ ap (λ xs. map (λ x. Ok x) xs) (sym (stretches_are ss)),
      rw (stretches_are ss) (subst (λ k. Shared n k (oks (flat_map owners_in ss))) mp (subst (λ k. Shared k (workers_of all) (oks (flat_map owners_in ss))) np (shared all (flat_map owners_in ss) o))),
      happens_ok all (flat_map happens_in ss) h ∙ ap (λ es. map (λ e. Ok e) es) (sym (events_are ss)),
      rw (events_are ss) (subst (λ k. AllThere k (oks (flat_map happens_in ss))) mp (all_there all (flat_map happens_in ss) h)),
    )

players_set : (w : Option (Result ℕ Expected)) (a : Option (Result ℕ script_expected.Expected)) (xs : List Span) (es : List Event) → (is_some a || is_some w) ≡ true → IsGood a → IsGood w → players_with w a xs es ≡ Some (players_by w a xs es)
players_set None None xs es some ga gw = absurd (let z : ◌≡◌ {A = ℕ} 0 1 = cc in omega arith)
players_set None (Some (Err x)) xs es some ga gw = absurd ga
players_set None (Some (Ok r)) xs es some ga gw = refl
players_set (Some (Err x)) a xs es some ga gw = absurd gw
players_set (Some (Ok m)) a xs es some ga gw = refl

-- what all lines give, where nothing is bad and nothing is missing
module _ (text : List ℕ) (e : complaints_of text ≡ []) where
  abbrev whole : Given
  whole = all_of text

  parts : (faults_from whole unsaid (lines_in text) ≡ []) × (lacking whole.lone.places (expected.Lone PlacesLine) ≡ []) × (lacking whole.lone.plan (expected.Lone PlanLine) ≡ []) × (lacking (run_in whole) RunLine ≡ [])
  parts =
      let p = nil_parts (faults_from whole unsaid (lines_in text)) (missing whole) e in
      let m = nil_parts (lacking whole.lone.places (expected.Lone PlacesLine)) (lacking whole.lone.plan (expected.Lone PlanLine) ++ lacking (run_in whole) RunLine) p.1 in
      let r = nil_parts (lacking whole.lone.plan (expected.Lone PlanLine)) (lacking (run_in whole) RunLine) m.1 in
      (p.0, m.0, r.0, r.1)

  clear : Adds whole unsaid (said_all (lines_in text)) (said whole.lone.places) (said whole.lone.plan) (said whole.lone.alone) (said whole.workers) × IsClean whole × Apart whole
  clear = faultless whole unsaid (lines_in text) parts.0 (tt, tt, tt, tt) refl

  set_places : whole.lone.places ≡ Some (Ok (given_or 0 whole.lone.places))
  set_places = set_is 0 (expected.Lone PlacesLine) whole.lone.places clear.1.0 parts.1

  set_plan : whole.lone.plan ≡ Some (Ok (given_or Sum whole.lone.plan))
  set_plan = set_is Sum (expected.Lone PlanLine) whole.lone.plan clear.1.1 parts.2

  someone : (is_some whole.lone.alone || is_some whole.workers) ≡ true
  someone = run_given (is_some whole.lone.alone || is_some whole.workers) RunLine parts.3

  pub script_set : (xs : List Span) (es : List Event) → script_in whole xs es ≡ Some (asked_by whole xs es)
  script_set xs es = λ i. asked_with (set_places i) (set_plan i) (players_set whole.workers whole.lone.alone xs es someone clear.1.2 clear.1.3 i)

  proper : Proper (statements_of text) (asked_by whole (flat_map stretches_of (statements_of text)) (flat_map events_of (statements_of text)))
  proper =
      let here : (ss : List Statement) → ss ≡ said_all (lines_in text) → Proper ss (asked_by whole (flat_map stretches_of ss) (flat_map events_of ss)) =
      λ ss at. record {
        places = ap (flat_map places_in) at ∙ clear.0.0 ∙ ap said set_places;
        plan = ap (flat_map plans_in) at ∙ clear.0.1 ∙ ap said set_plan;
        run =
            cast whole ss (given_or 0 whole.lone.places) (ap (given_or 1048576) set_places) whole.lone.alone whole.workers refl someone clear.2 clear.1.2 clear.1.3 (ap (flat_map alones_in) at ∙ clear.0.2) (ap (flat_map workers_in) at ∙ clear.0.3)
            (subst (λ l. OwnersFit whole None (flat_map owners_in l)) (sym at) clear.0.5) (subst (λ l. HappensFit whole (flat_map happens_in l)) (sym at) clear.0.6);
        known = subst Known (sym at) clear.0.4;
      } in
      here (statements_of text) (sym (said_where text))

is_proper : (text : List ℕ) (s : Asked) → outcome_of text ≡ good s → Proper (statements_of text) s
unfolding outcome_of
is_proper text s e =
    let q = no_complaint (asked_by (all_of text) (flat_map stretches_of (statements_of text)) (flat_map events_of (statements_of text))) s (complaints_of text) e in
    subst (Proper (statements_of text)) q.0 (proper text q.1)

abbrev alones_by : Players → List (Result ℕ script_expected.Expected)
alones_by (lone r) = Ok r ∷ []
alones_by (crew m xs es) = []

abbrev workers_by : Players → List (Result ℕ Expected)
workers_by (lone r) = []
workers_by (crew m xs es) = Ok m ∷ []

on_alone : (a : Option (Result ℕ script_expected.Expected)) (w : Option (Result ℕ Expected)) (r : Result ℕ script_expected.Expected) (xs : List (Result ℕ script_expected.Expected)) (ws : List (Result ℕ Expected)) (q : Players) →
    said a ++ (r ∷ xs) ≡ alones_by q → said w ++ ws ≡ workers_by q → (cond (not (is_some a) && is_some w) (Err OneRun) (turned (once Once a r)) ≡ Ok tt) × (said (Some (first_of a r)) ++ xs ≡ alones_by q)
on_alone None None (Ok r) xs ws (lone n) h k = (refl, h)
on_alone None None (Err x) xs ws (lone n) h k = absurd (let z : ◌≡◌ {A = ℕ} 0 1 = cc in omega arith)
on_alone None (Some w) r xs ws (lone n) h k = absurd (let z : ◌≡◌ {A = ℕ} 0 1 = cc in omega arith)
on_alone (Some y) w r xs ws (lone n) h k = absurd (let z : ◌≡◌ {A = ℕ} 0 1 = cc in omega arith)
on_alone None w r xs ws (crew m ys es) h k = absurd (let z : ◌≡◌ {A = ℕ} 0 1 = cc in omega arith)
on_alone (Some y) w r xs ws (crew m ys es) h k = absurd (let z : ◌≡◌ {A = ℕ} 0 1 = cc in omega arith)

on_workers : (a : Option (Result ℕ script_expected.Expected)) (w : Option (Result ℕ Expected)) (m : Result ℕ Expected) (xs : List (Result ℕ script_expected.Expected)) (ws : List (Result ℕ Expected)) (q : Players) →
    said a ++ xs ≡ alones_by q → said w ++ (m ∷ ws) ≡ workers_by q → (cond (not (is_some w) && is_some a) (Err OneRun) (once CrewOnce w m) ≡ Ok tt) × (said (Some (first_of w m)) ++ ws ≡ workers_by q)
on_workers None None (Ok m) xs ws (crew n ys es) h k = (refl, k)
on_workers None None (Err x) xs ws (crew n ys es) h k = absurd (let z : ◌≡◌ {A = ℕ} 0 1 = cc in omega arith)
on_workers (Some a) None m xs ws (crew n ys es) h k = absurd (let z : ◌≡◌ {A = ℕ} 0 1 = cc in omega arith)
on_workers a (Some y) m xs ws (crew n ys es) h k = absurd (let z : ◌≡◌ {A = ℕ} 0 1 = cc in omega arith)
on_workers a None m xs ws (lone n) h k = absurd (let z : ◌≡◌ {A = ℕ} 0 1 = cc in omega arith)
on_workers a (Some y) m xs ws (lone n) h k = absurd (let z : ◌≡◌ {A = ℕ} 0 1 = cc in omega arith)

-- all that is left to say fits what was said, for what s asks
module _ (s : Asked) (all : Given) where
  abbrev Leads : Given → List Statement → Type 0
  Leads g ss = Adds all g ss (Ok s.places ∷ []) (Ok s.plan ∷ []) (alones_by s.run) (workers_by s.run)

  abbrev Steps : Given → Statement → List Statement → Type 0
  Steps g st ss = Leads g (st ∷ ss) → (fault_of all g st ≡ Ok tt) × Leads (added_to g st) ss

  on_lone : (g : Given) (st : script_statement.Statement) (ss : List Statement) → Steps g (Lone st) ss
  on_lone g Nothing ss t = (refl, (t.0, t.1, t.2, t.3, t.4.1, t.5, t.6))
  on_lone g Unknown ss t = absurd t.4.0
  on_lone g (Places n) ss t = let h = on_once Once g.lone.places n (flat_map places_in ss) s.places t.0 in (ap turned h.0, (h.1, t.1, t.2, t.3, t.4.1, t.5, t.6))
  on_lone g (Plan p) ss t = let h = on_once Once g.lone.plan p (flat_map plans_in ss) s.plan t.1 in (ap turned h.0, (t.0, h.1, t.2, t.3, t.4.1, t.5, t.6))
  on_lone g (Alone r) ss t = let h = on_alone g.lone.alone g.workers r (flat_map alones_in ss) (flat_map workers_in ss) s.run t.2 t.3 in (h.0, (t.0, t.1, h.1, t.3, t.4.1, t.5, t.6))

  on_line : (g : Given) (st : Statement) (ss : List Statement) → Steps g st ss
  on_line g (Lone st) ss t = on_lone g st ss t
  on_line g (Workers m) ss t = let h = on_workers g.lone.alone g.workers m (flat_map alones_in ss) (flat_map workers_in ss) s.run t.2 t.3 in (h.0, (t.0, t.1, t.2, h.1, t.4.1, t.5, t.6))
  on_line g (Owner (Err x)) ss t = absurd t.5
  on_line g (Owner (Ok x)) ss t = ((λ i. cond (t.5.0 i) (cond (t.5.1 i) (Ok tt) (Err OwnerSettings)) (Err CrewLine)), (t.0, t.1, t.2, t.3, t.4.1, t.5.2, t.6))
  on_line g (Happens (Err x)) ss t = absurd t.6
  on_line g (Happens (Ok x)) ss t = ((λ i. cond (t.6.0 i) (cond (t.6.1 i) (Ok tt) (Err expected.Machine)) (Err CrewLine)), (t.0, t.1, t.2, t.3, t.4.1, t.5, t.6.2))

  leads : (g : Given) (ls : List (Position × List ℕ)) → Leads g (said_all ls) → (faults_from all g ls ≡ []) × Leads (given_by g ls) []
  leads g [] t = (refl, t)
  leads g (l ∷ ls) t =
      let p = on_line g (said_in l.1) (said_all ls) t in
      let q = leads (added_to g (said_in l.1)) ls p.1 in
      ((λ j. noted (Some l.0) (p.0 j) ++ q.0 j), q.1)

-- what all lines give, where what they lead to is asked
abbrev ideal : (n : ℕ) → Choice → Players → Given
ideal n p (lone r) = record { lone = record { places = Some (Ok n); plan = Some (Ok p); alone = Some (Ok r) }; workers = None; last = None }
ideal n p (crew m xs es) = record { lone = record { places = Some (Ok n); plan = Some (Ok p); alone = None }; workers = Some (Ok m); last = None }

module _ (ss : List Statement) (n : ℕ) (p : Choice) where
  -- the lines of a crew fit any such
  fit : (q : Players) (all : Given) → places_of all ≡ n → said all.workers ≡ workers_by q → Cast ss n q → OwnersFit all None (flat_map owners_in ss) × HappensFit all (flat_map happens_in ss)
  fit (lone r) all np we k = (rw k.2 tt, rw k.3 tt)
  fit (crew m xs es) all np we k =
      let w = end_once all.workers m (said_end all.workers ∙ we) in
      let mp : workers_of all ≡ m = ap (given_or 8) w in
      (rw k.2 (shared_fits all (ap is_some w) n m np mp xs k.3), rw k.4 (there_fits all (ap is_some w) n m np mp es k.5))

  said_alone : (q : Players) → Cast ss n q → flat_map alones_in ss ≡ alones_by q
  said_alone (lone r) k = k.0
  said_alone (crew m xs es) k = k.0

  said_workers : (q : Players) → Cast ss n q → flat_map workers_in ss ≡ workers_by q
  said_workers (lone r) k = k.1
  said_workers (crew m xs es) k = k.1

  ideal_places : (q : Players) → places_of (ideal n p q) ≡ n
  ideal_places (lone r) = refl
  ideal_places (crew m xs es) = refl

  ideal_workers : (q : Players) → said (ideal n p q).workers ≡ workers_by q
  ideal_workers (lone r) = refl
  ideal_workers (crew m xs es) = refl

  -- and who plays is what is asked
  plays : (q : Players) (g : Given) → Cast ss n q → said g.lone.alone ++ [] ≡ alones_by q → said g.workers ++ [] ≡ workers_by q →
      (run_in g ≡ Some tt) × (players_by g.workers g.lone.alone (flat_map stretches_of ss) (flat_map events_of ss) ≡ q)
  plays (lone r) g k ae we =
      let a = end_once g.lone.alone r ae in
      let w = none_once g.workers we in
      ((λ i. cond (is_some (a i) || is_some g.workers) (Some tt) None), (λ i. players_by (w i) (a i) (flat_map stretches_of ss) (flat_map events_of ss)))
  plays (crew m xs es) g k ae we =
      let a = none_once g.lone.alone ae in
      let w = end_once g.workers m we in
      let xp : flat_map stretches_of ss ≡ xs = stretches_are ss ∙ ap oks k.2 ∙ oks_map xs in
      let ep : flat_map events_of ss ≡ es = events_are ss ∙ ap oks k.4 ∙ oks_map es in
      ((λ i. cond (is_some (a i) || is_some (w i)) (Some tt) None), (λ i. players_by (w i) g.lone.alone (xp i) (ep i)))

is_good : (s : Asked) (text : List ℕ) → Proper (statements_of text) s → outcome_of text ≡ good s
unfolding outcome_of
is_good s text p =
    let ss : List Statement = statements_of text in
    let g : Given = all_of text in
    let from : (all : Given) → places_of all ≡ s.places → said all.workers ≡ workers_by s.run → (faults_from all unsaid (lines_in text) ≡ []) × Leads s all g [] =
    λ all np we.
    let f = fit ss s.places s.plan s.run all np we p.run in
    let t : Leads s all unsaid ss = (p.places, p.plan, said_alone ss s.places s.plan s.run p.run, said_workers ss s.places s.plan s.run p.run, p.known, f.0, f.1) in
    leads s all unsaid (lines_in text) (subst (Leads s all unsaid) (sym (said_where text)) t) in
    let t = from (ideal s.places s.plan s.run) (ideal_places ss s.places s.plan s.run) (ideal_workers ss s.places s.plan s.run) in
    let b = end_once g.lone.places s.places t.1.0 in
    let c = end_once g.lone.plan s.plan t.1.1 in
    let k = plays ss s.places s.plan s.run g p.run t.1.2 t.1.3 in
    let q = from g (ap (given_or 1048576) b) (sym (said_end g.workers) ∙ t.1.3) in
    λ i. outcome (record { places = given_or 0 (b i); plan = given_or Sum (c i); run = k.1 i }) (q.0 i ++ (lacking (b i) (expected.Lone PlacesLine) ++ (lacking (c i) (expected.Lone PlanLine) ++ lacking (k.0 i) RunLine)))

pub judged : (text : List ℕ) → Judged text (outcome_of text)
judged text s = (is_proper text s, is_good s text)

asked_is : (n : Option (Result ℕ script_expected.Expected)) (p : Option (Result Choice script_expected.Expected)) (w : Option (Result ℕ Expected)) (r : Option (Result ℕ script_expected.Expected)) (xs : List Span) (es : List Event) (a : Asked) →
    asked_with n p (players_with w r xs es) ≡ Some a → ◌≡◌ {A = Asked} (record { places = given_or 0 n; plan = given_or Sum p; run = players_by w r xs es }) a
asked_is None p w r xs es a e = absurd (let z : ◌≡◌ {A = ℕ} 0 1 = cc in omega arith)
asked_is (Some (Err x)) p w r xs es a e = absurd (let z : ◌≡◌ {A = ℕ} 0 1 = cc in omega arith)
asked_is (Some (Ok n)) None w r xs es a e = absurd (let z : ◌≡◌ {A = ℕ} 0 1 = cc in omega arith)
asked_is (Some (Ok n)) (Some (Err x)) w r xs es a e = absurd (let z : ◌≡◌ {A = ℕ} 0 1 = cc in omega arith)
asked_is (Some (Ok n)) (Some (Ok p)) None None xs es a e = absurd (let z : ◌≡◌ {A = ℕ} 0 1 = cc in omega arith)
asked_is (Some (Ok n)) (Some (Ok p)) None (Some (Err x)) xs es a e = absurd (let z : ◌≡◌ {A = ℕ} 0 1 = cc in omega arith)
asked_is (Some (Ok n)) (Some (Ok p)) None (Some (Ok r)) xs es a e = cc
asked_is (Some (Ok n)) (Some (Ok p)) (Some (Err x)) r xs es a e = absurd (let z : ◌≡◌ {A = ℕ} 0 1 = cc in omega arith)
asked_is (Some (Ok n)) (Some (Ok p)) (Some (Ok m)) r xs es a e = cc

-- what was found so far of something in each line, with what takes memory
pub weighs : {X : Type 0} (f : Statement → List X) (kept : List X) (ls ms : List (Position × List ℕ)) (l : Position × List ℕ) (text : List ℕ) →
    kept ++ flat_map f (said_all ls) ≡ flat_map f (said_all (lines_in text)) → ls ≡ l ∷ ms → length (f (said_in l.1)) ≤ length (flat_map f (statements_of text))
weighs f kept ls ms l text so_far next =
    omega (
      arith,
      ap (λ k. length (flat_map f (said_all k))) next,
      ap length so_far,
      ap (λ ss. length (flat_map f ss)) (said_where text),
      length-append kept (flat_map f (said_all ls)),
      length-append (f (said_in l.1)) (flat_map f (said_all ms)),
    )

-- what was found in all lines, and then what is missing
module _ (text : List ℕ) (all g : Given) (ls : List (Position × List ℕ)) (cs ds : List (Complaint Expected)) (xs : List Span) (es : List Event) (none : ls ≡ []) (all_is : all ≡ all_of text)
    (faults : cs ++ faults_from all g ls ≡ faults_from all unsaid (lines_in text)) (stretches : xs ++ flat_map stretches_of (said_all ls) ≡ flat_map stretches_of (said_all (lines_in text)))
    (happened : es ++ flat_map events_of (said_all ls) ≡ flat_map events_of (said_all (lines_in text))) (whole_is : ds ≡ cs ++ missing all) where
  all_complaints : ds ≡ complaints_of text
  all_complaints =
      whole_is
      ∙ ap (λ l. l ++ missing all) (sym (append-nil cs) ∙ sym (ap (λ l. cs ++ faults_from all g l) none) ∙ faults)
      ∙ ap (λ a. faults_from a unsaid (lines_in text) ++ missing a) all_is

  all_stretches : xs ≡ flat_map stretches_of (statements_of text)
  all_stretches = sym (append-nil xs) ∙ sym (ap (λ l. xs ++ flat_map stretches_of (said_all l)) none) ∙ stretches ∙ ap (flat_map stretches_of) (said_where text)

  all_events : es ≡ flat_map events_of (statements_of text)
  all_events = sym (append-nil es) ∙ sym (ap (λ l. es ++ flat_map events_of (said_all l)) none) ∙ happened ∙ ap (flat_map events_of) (said_where text)

  told_as : outcome (asked_by all xs es) ds ≡ outcome_of text
  unfolding outcome_of
  told_as = λ i. outcome (asked_by (all_is i) (all_stretches i) (all_events i)) (all_complaints i)

  pub told_good : (a : Asked) → script_in all xs es ≡ Some a → length ds ≡ 0 → good a ≡ outcome_of text
  told_good a e h = good_by ds h ∙ told_as
    where
      good_by : (l : List (Complaint Expected)) → length l ≡ 0 → good a ≡ outcome (asked_by all xs es) l
      good_by [] h' = ap good (sym (asked_is all.lone.places all.lone.plan all.workers all.lone.alone xs es a e))
      good_by (c ∷ l) h' = absurd (omega arith)

  pub told_bad : (ds ≡ [] → ⊥) → bad ds ≡ outcome_of text
  told_bad ne = bad_is (asked_by all xs es) ds ne ∙ told_as

  -- with no complaint all is set
  pub told_set : ds ≡ [] → script_in all xs es ≡ Some (asked_by all xs es)
  told_set empty = ap (λ a. script_in a xs es) all_is ∙ script_set text (sym all_complaints ∙ empty) xs es ∙ ap (λ a. Some (asked_by a xs es)) (sym all_is)
