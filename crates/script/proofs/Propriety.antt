-- A text comes to a good script if and only if it is a proper one.
use Rattle.std.proofs.Common.{◌≡◌, ℕ, ◌<◌, List, [], ◌∷◌, ◌++◌, map, length, Some, None, Ok, Err, Option, Result, sym, refl, ap, ◌∙◌, subst, append-nil, arith, length-append}
use Rattle.std.specs.List.{flat_map}
use Rattle.script.specs.declared.settings.Choice.{Choice}
use Rattle.script.specs.declared.settings.Choice.TheVariants.{Sum}
use Rattle.script.specs.declared.settings.Script.{Script}
use Rattle.script.specs.declared.complaints.Complaint.{Complaint}
use Rattle.script.specs.declared.complaints.Expected.{Expected}
use Rattle.script.specs.declared.complaints.Expected.TheVariants.{Once, PlacesLine, PlanLine, AloneLine}
use Rattle.script.specs.declared.given.Given.{Given}
use Rattle.script.specs.declared.lines.Position.{Position}
use Rattle.script.specs.declared.statements.Statement.{Statement}
use Rattle.script.specs.declared.statements.Statement.TheVariants.{Nothing, Unknown, Places, Plan, Alone}
use Rattle.script.specs.Given.{added_to, fault_of, script_in, script_with, settings_in, unsaid}
use Rattle.script.specs.Lines.{lines_in}
use Rattle.script.specs.Proper.{Judged, Known, Proper, alones_in, places_in, plans_in, statements_of}
use Rattle.script.specs.Reading.{IsBad, bad, good, lacking, noted, outcome}
use Rattle.script.specs.Saying.{said_in}
use Rattle.script.specs.Script.{faults_from, given_by, missing, outcome_of}
use Rattle.script.specs.Text.{lines_of}
use Rattle.script.proofs.Lining.{map_placed}
use Rattle.script.proofs.Once.{IsGood, at_once, end_once, good_once, on_once, said, said_end, set_is}

pub none_noted : {E : Type 0} (p : Option Position) (r : Result (Unit {0}) E) → noted p r ≡ [] → r ≡ Ok tt
none_noted p (Ok u) h = refl
none_noted p (Err e) h = absurd (let z : ◌≡◌ {A = ℕ} 0 1 = cc in omega arith)

pub nil_parts : {X : Type 0} (xs ys : List X) → xs ++ ys ≡ [] → (xs ≡ []) × (ys ≡ [])
nil_parts [] ys e = (refl, e)
nil_parts (x ∷ xs) ys e = absurd (let z : ◌≡◌ {A = ℕ} 0 1 = cc in omega arith)

pub no_complaint : {S E : Type 0} (s t : S) (cs : List (Complaint E)) → outcome s cs ≡ good t → (s ≡ t) × (cs ≡ [])
no_complaint s t [] e = (cc, refl)
no_complaint s t (c ∷ cs) e = absurd (let z : ◌≡◌ {A = ℕ} 0 1 = cc in omega arith)

-- the statements of lines, wherever these lie
abbrev pub said_all : List (Position × List ℕ) → List Statement
said_all ls = map (λ l. said_in l.1) ls

-- all that was said, and what is still said, is this
abbrev Adds : Given → List Statement → List (Result ℕ Expected) → List (Result Choice Expected) → List (Result ℕ Expected) → Type 0
Adds g ss ns ps rs = (said g.places ++ flat_map places_in ss ≡ ns) × (said g.plan ++ flat_map plans_in ss ≡ ps) × (said g.alone ++ flat_map alones_in ss ≡ rs) × Known ss

abbrev IsClean : Given → Type 0
IsClean g = IsGood g.places × IsGood g.plan × IsGood g.alone

-- a line with no fault says what it adds
at_line : (ss : List Statement) (ns : List (Result ℕ Expected)) (ps : List (Result Choice Expected)) (rs : List (Result ℕ Expected)) (g : Given) (st : Statement) →
    fault_of g st ≡ Ok tt → Adds (added_to g st) ss ns ps rs → Adds g (st ∷ ss) ns ps rs
at_line ss ns ps rs g Nothing e t = (t.0, t.1, t.2, (tt, t.3))
at_line ss ns ps rs g Unknown e t = absurd (let z : ◌≡◌ {A = ℕ} 0 1 = cc in omega arith)
at_line ss ns ps rs g (Places n) e t = (at_once Once g.places n (flat_map places_in ss) ns e t.0, t.1, t.2, (tt, t.3))
at_line ss ns ps rs g (Plan p) e t = (t.0, at_once Once g.plan p (flat_map plans_in ss) ps e t.1, t.2, (tt, t.3))
at_line ss ns ps rs g (Alone n) e t = (t.0, t.1, at_once Once g.alone n (flat_map alones_in ss) rs e t.2, (tt, t.3))

clean_line : (g : Given) (st : Statement) → fault_of g st ≡ Ok tt → IsClean g → IsClean (added_to g st)
clean_line g Nothing e t = t
clean_line g Unknown e t = t
clean_line g (Places n) e t = (good_once Once g.places n e, t.1, t.2)
clean_line g (Plan p) e t = (t.0, good_once Once g.plan p e, t.2)
clean_line g (Alone n) e t = (t.0, t.1, good_once Once g.alone n e)

faultless : (g : Given) (ls : List (Position × List ℕ)) → faults_from g ls ≡ [] → IsClean g →
    Adds g (said_all ls) (said (given_by g ls).places) (said (given_by g ls).plan) (said (given_by g ls).alone) × IsClean (given_by g ls)
faultless g [] e t = ((said_end g.places, said_end g.plan, said_end g.alone, tt), t)
faultless g (l ∷ ls) e t =
    let p = nil_parts (noted (Some l.0) (fault_of g (said_in l.1))) (faults_from (added_to g (said_in l.1)) ls) e in
    let f = none_noted (Some l.0) (fault_of g (said_in l.1)) p.0 in
    let q = faultless (added_to g (said_in l.1)) ls p.1 (clean_line g (said_in l.1) f t) in
    (at_line (said_all ls) (said (given_by g (l ∷ ls)).places) (said (given_by g (l ∷ ls)).plan) (said (given_by g (l ∷ ls)).alone) g (said_in l.1) f q.0, q.1)

-- what all lines give, where nothing is bad and nothing is missing
module _ (text : List ℕ) (e : faults_from unsaid (lines_in text) ++ missing (given_by unsaid (lines_in text)) ≡ []) where
  abbrev whole : Given
  whole = given_by unsaid (lines_in text)

  set : (whole.places ≡ Some (Ok (settings_in whole).places)) × (whole.plan ≡ Some (Ok (settings_in whole).plan)) × (whole.alone ≡ Some (Ok (settings_in whole).rounds))
  set =
      let p = nil_parts (faults_from unsaid (lines_in text)) (missing whole) e in
      let m = nil_parts (lacking whole.places PlacesLine) (lacking whole.plan PlanLine ++ lacking whole.alone AloneLine) p.1 in
      let r = nil_parts (lacking whole.plan PlanLine) (lacking whole.alone AloneLine) m.1 in
      let t = faultless unsaid (lines_in text) p.0 (tt, tt, tt) in
      (set_is 0 PlacesLine whole.places t.1.0 m.0, set_is Sum PlanLine whole.plan t.1.1 r.0, set_is 0 AloneLine whole.alone t.1.2 r.1)

  pub script_set : script_in whole ≡ Some (settings_in whole)
  script_set = λ i. script_with (set.0 i) (set.1 i) (set.2 i)

  proper : Proper (statements_of text) (settings_in whole)
  proper =
      let p = nil_parts (faults_from unsaid (lines_in text)) (missing whole) e in
      let t = faultless unsaid (lines_in text) p.0 (tt, tt, tt) in
      let here : Proper (said_all (lines_in text)) (settings_in whole) =
      record {
        places = t.0.0 ∙ ap said set.0;
        plan = t.0.1 ∙ ap said set.1;
        alone = t.0.2 ∙ ap said set.2;
        known = t.0.3;
      } in
      subst (λ ss. Proper ss (settings_in whole)) (map_placed said_in 1 0 (lines_of text)) here

is_proper : (text : List ℕ) (s : Script) → outcome_of text ≡ good s → Proper (statements_of text) s
unfolding outcome_of
is_proper text s e =
    let q = no_complaint (settings_in (given_by unsaid (lines_in text))) s (faults_from unsaid (lines_in text) ++ missing (given_by unsaid (lines_in text))) e in
    subst (Proper (statements_of text)) q.0 (proper text q.1)

-- all that is left to say fits what was said, for the settings s
module _ (s : Script) where
  abbrev Leads : Given → List Statement → Type 0
  Leads g ss = Adds g ss (Ok s.places ∷ []) (Ok s.plan ∷ []) (Ok s.rounds ∷ [])

  abbrev all : Given
  all = record { places = Some (Ok s.places); plan = Some (Ok s.plan); alone = Some (Ok s.rounds) }

  on_line : (g : Given) (st : Statement) (ss : List Statement) → Leads g (st ∷ ss) → (fault_of g st ≡ Ok tt) × Leads (added_to g st) ss
  on_line g Nothing ss t = (refl, (t.0, t.1, t.2, t.3.1))
  on_line g Unknown ss t = absurd t.3.0
  on_line g (Places n) ss t = let h = on_once Once g.places n (flat_map places_in ss) s.places t.0 in (h.0, (h.1, t.1, t.2, t.3.1))
  on_line g (Plan p) ss t = let h = on_once Once g.plan p (flat_map plans_in ss) s.plan t.1 in (h.0, (t.0, h.1, t.2, t.3.1))
  on_line g (Alone n) ss t = let h = on_once Once g.alone n (flat_map alones_in ss) s.rounds t.2 in (h.0, (t.0, t.1, h.1, t.3.1))

  leads : (g : Given) (ls : List (Position × List ℕ)) → Leads g (said_all ls) → (faults_from g ls ≡ []) × (given_by g ls ≡ all)
  leads g [] t = (refl, λ i. record { places = end_once g.places s.places t.0 i; plan = end_once g.plan s.plan t.1 i; alone = end_once g.alone s.rounds t.2 i })
  leads g (l ∷ ls) t =
      let p = on_line g (said_in l.1) (said_all ls) t in
      let q = leads (added_to g (said_in l.1)) ls p.1 in
      ((λ j. noted (Some l.0) (p.0 j) ++ q.0 j), q.1)

  is_good : (text : List ℕ) → Proper (statements_of text) s → outcome_of text ≡ good s
  unfolding outcome_of
  is_good text p =
      let r : Proper (said_all (lines_in text)) s = subst (λ ss. Proper ss s) (sym (map_placed said_in 1 0 (lines_of text))) p in
      let q = leads unsaid (lines_in text) (r.places, r.plan, r.alone, r.known) in
      λ i. outcome (settings_in (q.1 i)) (q.0 i ++ missing (q.1 i))

pub judged : (text : List ℕ) → Judged text (outcome_of text)
judged text s = (is_proper text s, is_good s text)

settings_with : (n : Option (Result ℕ Expected)) (p : Option (Result Choice Expected)) (r : Option (Result ℕ Expected)) (s : Script) → script_with n p r ≡ Some s → settings_in (record { places = n; plan = p; alone = r }) ≡ s
settings_with (Some (Ok n)) (Some (Ok p)) (Some (Ok r)) s e = cc
settings_with None p r s e = absurd (let z : ◌≡◌ {A = ℕ} 0 1 = cc in omega arith)
settings_with (Some (Err x)) p r s e = absurd (let z : ◌≡◌ {A = ℕ} 0 1 = cc in omega arith)
settings_with (Some (Ok n)) None r s e = absurd (let z : ◌≡◌ {A = ℕ} 0 1 = cc in omega arith)
settings_with (Some (Ok n)) (Some (Err x)) r s e = absurd (let z : ◌≡◌ {A = ℕ} 0 1 = cc in omega arith)
settings_with (Some (Ok n)) (Some (Ok p)) None s e = absurd (let z : ◌≡◌ {A = ℕ} 0 1 = cc in omega arith)
settings_with (Some (Ok n)) (Some (Ok p)) (Some (Err x)) s e = absurd (let z : ◌≡◌ {A = ℕ} 0 1 = cc in omega arith)

pub good_is : {E : Type 0} (g : Given) (s : Script) (cs : List (Complaint E)) → script_in g ≡ Some s → length cs ≡ 0 → good s ≡ outcome (settings_in g) cs
good_is g s [] e h = ap good (sym (settings_with g.places g.plan g.alone s e))
good_is g s (c ∷ cs) e h = absurd (omega arith)

pub bad_is : {S E : Type 0} (s : S) (cs : List (Complaint E)) → (cs ≡ [] → ⊥) → bad cs ≡ outcome s cs
bad_is s [] ne = absurd (ne refl)
bad_is s (c ∷ cs) ne = refl

pub refused_is : {S E : Type 0} (s : S) (cs : List (Complaint E)) → 0 < length cs → IsBad (outcome s cs)
refused_is s [] h = absurd (omega arith)
refused_is s (c ∷ cs) h = tt

-- where there are complaints the script is bad
refused : (text : List ℕ) → 0 < length (faults_from unsaid (lines_in text) ++ missing (given_by unsaid (lines_in text))) → IsBad (outcome_of text)
unfolding outcome_of
refused text some = refused_is (settings_in (given_by unsaid (lines_in text))) (faults_from unsaid (lines_in text) ++ missing (given_by unsaid (lines_in text))) some

-- what was found so far, and the lines that are left
module _ (text : List ℕ) (g : Given) (ls : List (Position × List ℕ)) (cs : List (Complaint Expected)) (given : given_by g ls ≡ given_by unsaid (lines_in text)) (faults : cs ++ faults_from g ls ≡ faults_from unsaid (lines_in text)) where
  pub bad_line : (l : Position × List ℕ) (ms : List (Position × List ℕ)) (r : Result (Unit {0}) Expected) → ls ≡ l ∷ ms → r ≡ fault_of g (said_in l.1) → 0 < length (noted (Some l.0) r) → IsBad (outcome_of text)
  bad_line l ms r next e some =
      refused text
      (omega (
        arith,
        some,
        ap (λ x. length (noted (Some l.0) x)) e,
        ap (λ x. length (faults_from g x)) next,
        ap length faults,
        length-append cs (faults_from g ls),
        length-append (noted (Some l.0) (fault_of g (said_in l.1))) (faults_from (added_to g (said_in l.1)) ms),
        length-append (faults_from unsaid (lines_in text)) (missing (given_by unsaid (lines_in text))),
      ))

  module _ (none : ls ≡ []) where
    all_given : g ≡ given_by unsaid (lines_in text)
    all_given = sym (ap (given_by g) none) ∙ given

    all_faults : cs ≡ faults_from unsaid (lines_in text)
    all_faults = sym (append-nil cs) ∙ sym (ap (λ l. cs ++ faults_from g l) none) ∙ faults

    pub lacks : 0 < length (missing g) → IsBad (outcome_of text)
    lacks some = refused text (omega (arith, some, ap (λ x. length (missing x)) all_given, length-append (faults_from unsaid (lines_in text)) (missing (given_by unsaid (lines_in text)))))

    module _ (ds : List (Complaint Expected)) (all_of : ds ≡ cs ++ missing g) where
      all_is : ds ≡ faults_from unsaid (lines_in text) ++ missing (given_by unsaid (lines_in text))
      all_is = all_of ∙ (λ i. all_faults i ++ missing (all_given i))

      told_as : outcome (settings_in g) ds ≡ outcome_of text
      unfolding outcome_of
      told_as = λ i. outcome (settings_in (all_given i)) (all_is i)

      pub told_good : (s : Script) → script_in g ≡ Some s → length ds ≡ 0 → good s ≡ outcome_of text
      told_good s e h = good_is g s ds e h ∙ told_as

      pub told_bad : (ds ≡ [] → ⊥) → bad ds ≡ outcome_of text
      told_bad ne = bad_is (settings_in g) ds ne ∙ told_as

      -- with no complaint all is set
      pub told_set : ds ≡ [] → script_in g ≡ Some (settings_in g)
      told_set empty = ap script_in all_given ∙ script_set text (sym all_is ∙ empty) ∙ ap (λ x. Some (settings_in x)) (sym all_given)
