-- Each call of a machine, from what is true and on a message that is true, leaves what is true and says what is true.
-- Assumes nothing.
use Rattle.std.proofs.Common.{◌≡◌, ℕ, suc, ◌+◌, ◌<◌, Bool, true, false, cond, not, ◌&&◌, ◌||◌, eqb, ltb, leb, List, [], ◌∷◌, ◌++◌, map, is_some, Some, None, Option, sym, refl, ap, ◌∙◌, ⊎_elim, add-one}
use Rattle.std.specs.List.{range_with_len, AllByRecursion}
use Rattle.std.proofs.ByRecursion.{All-append}
use Rattle.std.proofs.lemmas.Bool.{eqb-true, and_parts, or_cases, not-false, cond_both, false≢true}
use Rattle.meaning.specs.Caps.{round_cap}
use Rattle.meaning.specs.Meaning.{Letter, View, rounds, is_over}
use Rattle.crew.specs.Job.{Job, Proper, meant, letters_to, letters_by, share_of, all_below}
use Rattle.crew.specs.Journals.{Record, Checkpoint, Joined, Note, Began, Noted, last_began, last_noted, checkpoint_from, checkpoint_of, greatest_below}
use Rattle.crew.specs.Messages.{Message, Batch, Ready, Go, Anew, PutBy, Hello, Parcel, foreman_line, to_all}
use Rattle.crew.specs.Outcomes.{Outcome, Taken, outcome_number, judged, only_full, is_taken}
use Rattle.crew.specs.Worker as W
use Rattle.crew.specs.Foreman as F
use Rattle.runs.specs.Promise.{silent_meant, work_meant, TrueWorker, TrueRecord, TrueMessage}
use Rattle.runs.proofs.Lists.{nobody, same_some, all_made, all_below_lem}
use Rattle.runs.proofs.Outcomes.{Clear, clear}
use Rattle.runs.proofs.Ticks.{quieter, ticked_any}
use Rattle.runs.proofs.Own.{batch_meant, work_true, merged_true, none_true, over_of_silent}

-- SMALL THINGS

some_view : (o : Option View) → is_some o ≡ true → o ≡ Some (W.view_in o)
some_view None e = absurd (false≢true e)
some_view (Some s) e = refl

some_letters : (o : Option (List Letter)) → is_some o ≡ true → o ≡ Some (W.letters_in o)
some_letters None e = absurd (false≢true e)
some_letters (Some ls) e = refl

-- what was said is true
abbrev pub TrueParcel : Job → Parcel → Type 0
TrueParcel b p = TrueMessage b p.from p.message

-- A WORKER

module _ (b : Job) (proper : Proper b) (i : ℕ) where
  -- a call of a worker that leaves and says what is true
  pub record TrueReply (y : W.Reply) : Type 0 where
    pub state : TrueWorker b i y.state
    pub appends : AllByRecursion (TrueRecord b i) y.appends
    pub says : AllByRecursion (TrueParcel b) y.says

  unmoved_true : (x : W.Worker) (o : Outcome) → TrueWorker b i x → TrueReply (W.unmoved x o)
  unmoved_true x o t = record { state = t; appends = tt; says = tt }

  -- who joins has nothing yet of the next round
  joined_true : (k r : ℕ) (s : View) → s ≡ share_of b i (meant b r) → TrueWorker b i (W.joined_at k r s)
  joined_true k r s e = record { share = e; worked = λ v q. nobody q; got = λ j ls q. nobody q; over = λ q. absurd (false≢true q) }

  first_true : W.first_share b i ≡ share_of b i (meant b 0)
  unfolding rounds
  first_true = refl

  pub opened_true : (js : List Record) → TrueReply (W.opened b i js)
  opened_true [] = record { state = joined_true 0 0 (W.first_share b i) first_true; appends = (tt, tt); says = tt }
  opened_true (x ∷ xs) =
      record { state = record { share = first_true; worked = λ v q. nobody q; got = λ j ls q. nobody q; over = λ q. absurd (false≢true q) }; appends = tt; says = (tt, tt) }

  -- what it says of its checkpoints and of itself asks for nothing
  put_by_true : (k : ℕ) (o : Option ℕ) → AllByRecursion (TrueParcel b) (W.says_put_by i k o)
  put_by_true k None = tt
  put_by_true k (Some r) = (tt, tt)

  answer_true : (js : List Record) (m : Message) (o : Outcome) → AllByRecursion (TrueParcel b) (W.answer i js m o)
  answer_true js (Batch k r f to ls) o = tt
  answer_true js (Ready k r e) o = tt
  answer_true js (Go k r nr e) o = tt
  answer_true js (Anew k r) o = cond_both (eqb (outcome_number o) 6) (W.to_foreman i (PutBy k (greatest_below 0 r js)) ∷ []) [] (AllByRecursion (TrueParcel b)) (λ e. (tt, tt)) (λ e. tt)
  answer_true js (PutBy k r) o = tt
  answer_true js (Hello k) o = tt

  -- what it says of a round that it worked
  module _ (x : W.Worker) (t : TrueWorker b i x) where
    worked_true : is_some x.worked ≡ true → W.view_in x.worked ≡ work_meant b i x.round
    worked_true s = t.worked (W.view_in x.worked) (some_view x.worked s)

    batches_true : AllByRecursion (TrueParcel b) (W.says_batches b i x)
    batches_true =
        cond_both (is_some x.worked) (map (W.batch_to b i x) (range_with_len 0 b.workers)) [] (AllByRecursion (TrueParcel b))
        (λ s. all_made (TrueParcel b) (W.batch_to b i x) (λ j. (refl, ap (λ (v : View). letters_to b j v.post) (worked_true s))) (range_with_len 0 b.workers))
        (λ s. tt)

    module _ (ready : W.is_ready b x ≡ true) where
      has_worked : is_some x.worked ≡ true
      has_worked = (and_parts (is_some x.worked) (all_below b.workers (λ j. is_some (x.got j))) ready).0

      got_true : (j : ℕ) → j < b.workers → W.letters_in (x.got j) ≡ batch_meant b i j x.round
      got_true j h = t.got j (W.letters_in (x.got j)) (some_letters (x.got j) (all_below_lem b.workers (λ k. is_some (x.got k)) (and_parts (is_some x.worked) (all_below b.workers (λ k. is_some (x.got k))) ready).1 j h))

      silent_true : W.is_silent b x ≡ silent_meant b i (suc x.round)
      silent_true = λ k. W.all_true (worked_true has_worked k).rests && none_true b i x.round x.got proper got_true k

      next_true : W.next_share b x ≡ share_of b i (meant b (x.round + 1))
      next_true =
          (λ k. record { states = (worked_true has_worked k).states; rests = (worked_true has_worked k).rests; post = merged_true b i x.round x.got proper got_true k })
          ∙ ap (λ r. share_of b i (meant b r)) (sym (add-one x.round))

    ready_true : AllByRecursion (TrueParcel b) (W.says_ready b i x)
    ready_true = cond_both (W.is_ready b x) (W.to_foreman i (Ready x.attempt x.round (W.is_silent b x)) ∷ []) [] (AllByRecursion (TrueParcel b)) (λ e. (silent_true e, tt)) (λ e. tt)

    pub ticked_true : TrueReply (W.ticked b i x)
    ticked_true =
        record {
          state = t;
          appends = tt;
          says =
              cond_both x.joined (cond x.over [] (W.says_batches b i x ++ W.says_ready b i x ++ W.says_put_by i x.attempt x.latest)) (W.to_foreman i (Hello x.attempt) ∷ []) (AllByRecursion (TrueParcel b))
              (λ e. cond_both x.over [] (W.says_batches b i x ++ W.says_ready b i x ++ W.says_put_by i x.attempt x.latest) (AllByRecursion (TrueParcel b))
              (λ f. tt)
              (λ f. All-append (TrueParcel b) (W.says_batches b i x ++ W.says_ready b i x) (W.says_put_by i x.attempt x.latest) (All-append (TrueParcel b) (W.says_batches b i x) (W.says_ready b i x) batches_true ready_true) (put_by_true x.attempt x.latest)))
              (λ e. (tt, tt));
        }

    with_worked_true : TrueWorker b i (W.with_worked b i x)
    with_worked_true =
        record {
          share = t.share;
          worked = λ s q. same_some q ∙ ap (W.worked_of b i x.round) t.share ∙ work_true b i x.round;
          got = t.got;
          over = t.over;
        }

  did_work_true : (x : W.Worker) → TrueWorker b i x → TrueReply (W.did_work b i x)
  did_work_true x t = record { state = t; appends = tt; says = All-append (TrueParcel b) (W.says_batches b i x) (W.says_ready b i x) (batches_true x t) (ready_true x t) }

  pub works_true : (x : W.Worker) → TrueWorker b i x → TrueReply (W.works b i x)
  works_true x t =
      cond_both (W.is_idle x) (cond (ltb x.round round_cap) (W.did_work b i (W.with_worked b i x)) (W.unmoved x (judged only_full))) (W.unmoved x Taken) TrueReply
      (λ e. cond_both (ltb x.round round_cap) (W.did_work b i (W.with_worked b i x)) (W.unmoved x (judged only_full)) TrueReply
      (λ f. did_work_true (W.with_worked b i x) (with_worked_true x t))
      (λ f. unmoved_true x (judged only_full) t))
      (λ e. unmoved_true x Taken t)

  -- a checkpoint out of a journal that is true is true
  checkpoint_true : (r : ℕ) (o : Option View) → ((s : View) → o ≡ Some s → s ≡ share_of b i (meant b r)) → (js : List Record) → AllByRecursion (TrueRecord b i) js → (s : View) → checkpoint_from o r js ≡ Some s → s ≡ share_of b i (meant b r)
  checkpoint_true r o h [] all = h
  checkpoint_true r o h (Checkpoint c v ∷ js) (one, all) =
      checkpoint_true r (cond (eqb r c) (Some v) o)
      (cond_both (eqb r c) (Some v) o (λ p. (s : View) → p ≡ Some s → s ≡ share_of b i (meant b r))
      (λ e s q. same_some q ∙ one ∙ ap (λ k. share_of b i (meant b k)) (sym (eqb-true r c e)))
      (λ e. h))
      js all
  checkpoint_true r o h (Joined k ∷ js) (one, all) = checkpoint_true r o h js all

  module _ (js : List Record) (all : AllByRecursion (TrueRecord b i) js) where
    share_true : (r : ℕ) → (eqb r 0 || is_some (checkpoint_of r js)) ≡ true → W.share_at b i r js ≡ share_of b i (meant b r)
    share_true r = go (eqb r 0) refl
      where
        go : (first : Bool) → eqb r 0 ≡ first → (first || is_some (checkpoint_of r js)) ≡ true → cond first (W.first_share b i) (W.view_in (checkpoint_of r js)) ≡ share_of b i (meant b r)
        go true e h = first_true ∙ ap (λ k. share_of b i (meant b k)) (sym (eqb-true r 0 e))
        go false e h = checkpoint_true r None (λ s q. nobody q) js all (W.view_in (checkpoint_of r js)) (some_view (checkpoint_of r js) h)

    module _ (x : W.Worker) (t : TrueWorker b i x) (j : ℕ) where
      -- a batch of its round, from who it says, to this worker
      batch_true : (k r f to : ℕ) (ls : List Letter) → Clear (W.reasons b i js x j (Batch k r f to ls)) → TrueMessage b j (Batch k r f to ls) → ls ≡ batch_meant b i j x.round
      batch_true k r f to ls c m =
          let now = (and_parts (x.joined && eqb k x.attempt && eqb r x.round) (not x.over) (not-false (x.joined && eqb k x.attempt && eqb r x.round && not x.over) c.stale)).0 in
          let round : r ≡ x.round = eqb-true r x.round (and_parts (x.joined && eqb k x.attempt) (eqb r x.round) now).1 in
          let mine = (and_parts (eqb to i && eqb f j) (W.between b j i ls) (not-false (eqb to i && eqb f j && W.between b j i ls) c.foreign)).0 in
          let for : to ≡ i = eqb-true to i (and_parts (eqb to i) (eqb f j) mine).0 in
          m.1 ∙ (λ q. letters_to b (for q) (letters_by b (m.0 q) (meant b (suc (round q))).post))

      with_batch_true : (ls : List Letter) → ls ≡ batch_meant b i j x.round → TrueWorker b i (W.with_batch x j ls)
      with_batch_true ls is =
          record {
            share = t.share;
            worked = t.worked;
            got = λ k ms. cond_both (eqb k j) (Some ls) (x.got k) (λ o. o ≡ Some ms → ms ≡ batch_meant b i k x.round)
                (λ e q. same_some q ∙ is ∙ ap (λ u. batch_meant b i u x.round) (sym (eqb-true k j e)))
                (λ e. t.got k ms);
            over = t.over;
          }

      taking_true : (m : Message) → Clear (W.reasons b i js x j m) → TrueMessage b j m → TrueReply (W.taking b i js x j m)
      taking_true (Batch k r f to ls) c m =
          let next : TrueWorker b i (W.with_batch x j ls) = with_batch_true ls (batch_true k r f to ls c m) in
          record { state = next; appends = tt; says = ready_true (W.with_batch x j ls) next }
      taking_true (Go k r nr e) c m =
          let next : W.next_share b x ≡ share_of b i (meant b (x.round + 1)) = next_true x t (not-false (W.is_ready b x) c.unready) in
          let round : r ≡ x.round + 1 = eqb-true r (x.round + 1) (and_parts (x.joined && eqb k x.attempt) (eqb r (x.round + 1)) (not-false (x.joined && eqb k x.attempt && eqb r (x.round + 1)) c.stale)).1 in
          record {
            state = record { share = next; worked = λ v q. nobody q; got = λ u ls q. nobody q; over = λ q. ap (λ u. is_over b.places (meant b u)) (sym round) ∙ m q };
            appends = cond_both (W.is_due (x.round + 1)) (Checkpoint (x.round + 1) (W.next_share b x) ∷ []) [] (AllByRecursion (TrueRecord b i)) (λ d. (next, tt)) (λ d. tt);
            says = cond_both (W.is_due (x.round + 1)) (W.to_foreman i (PutBy x.attempt (x.round + 1)) ∷ []) [] (AllByRecursion (TrueParcel b)) (λ d. (tt, tt)) (λ d. tt);
          }
      taking_true (Anew k r) c m =
          record { state = joined_true k r (W.share_at b i r js) (share_true r (not-false (eqb r 0 || is_some (checkpoint_of r js)) c.missing)); appends = (tt, tt); says = tt }
      taking_true (Ready k r e) c m = unmoved_true x Taken t
      taking_true (PutBy k r) c m = unmoved_true x Taken t
      taking_true (Hello k) c m = unmoved_true x Taken t

      pub took_true : (m : Message) → TrueMessage b j m → TrueReply (W.took b i js x j m)
      took_true m h =
          let o : Outcome = judged (W.reasons b i js x j m) in
          cond_both (is_taken o) (W.taking b i js x j m) (record { state = x; appends = []; says = W.answer i js m o; outcome = o }) TrueReply
          (λ e. taking_true m (clear (W.reasons b i js x j m) e) h)
          (λ e. record { state = t; appends = tt; says = answer_true js m o })

-- THE FOREMAN

-- While all that are ready said that theirs is over, theirs is; and what it says is over is.
pub record TrueForeman (b : Job) (f : F.Foreman) : Type 0 where
  pub ending : f.ending ≡ true → (j : ℕ) → f.ready j ≡ true → silent_meant b j (suc f.at) ≡ true
  pub over : f.over ≡ true → is_over b.places (meant b f.at) ≡ true

abbrev pub ForemanUp : Job → Option F.Foreman → Type 0
ForemanUp b None = Unit {0}
ForemanUp b (Some f) = TrueForeman b f

module _ (b : Job) (proper : Proper b) where
  pub record TrueOrder (y : F.Reply) : Type 0 where
    pub state : ForemanUp b y.state
    pub says : AllByRecursion (TrueParcel b) y.says

  begun_true : (k r : ℕ) → TrueForeman b (F.begun k r)
  begun_true k r = record { ending = λ e j h. absurd (false≢true h); over = λ e. absurd (false≢true e) }

  to_all_true : (m : Message) → TrueMessage b foreman_line m → AllByRecursion (TrueParcel b) (to_all b.workers m)
  to_all_true m h = all_made (TrueParcel b) (λ j. record { from = foreman_line; to = j; message = m }) (λ j. h) (range_with_len 0 b.workers)

  begins_true : (f : F.Foreman) (r : ℕ) (xs : List Note) → TrueOrder (F.begins b.workers f r xs)
  begins_true f r xs = record { state = begun_true (f.attempt + 1) r; says = to_all_true (Anew (f.attempt + 1) r) tt }

  pub foreman_opened_true : (js : List Note) → TrueOrder (F.opened b.workers js)
  foreman_opened_true [] = record { state = begun_true 0 0; says = tt }
  foreman_opened_true (x ∷ xs) = go (last_began 0 (x ∷ xs) + 1) (last_noted 0 (x ∷ xs))
    where
      go : (k r : ℕ) → TrueOrder (F.opened_at b.workers k r)
      go k r =
          cond_both (leb W.attempt_cap k) (record { state = None; appends = []; says = []; outcome = judged only_full }) (record { state = Some (F.begun k r); appends = Began k ∷ []; says = to_all b.workers (Anew k r); outcome = Taken }) TrueOrder
          (λ e. record { state = tt; says = tt })
          (λ e. record { state = begun_true k r; says = to_all_true (Anew k r) tt })

  module _ (f : F.Foreman) (t : TrueForeman b f) where
    saying_true : TrueMessage b foreman_line (F.saying f)
    saying_true = cond_both (eqb f.at f.start && ltb 0 f.attempt) (Anew f.attempt f.start) (Go f.attempt f.at f.noted f.over) (TrueMessage b foreman_line) (λ e. tt) (λ e. t.over)

    waited_true : TrueOrder (F.waited b.workers f)
    waited_true = record { state = t; says = to_all_true (F.saying f) saying_true }

    -- when all are ready and all said over, it is over
    advanced_true : all_below b.workers f.ready ≡ true → TrueForeman b (F.advanced f)
    advanced_true all =
        record {
          ending = λ e j h. absurd (false≢true h);
          over = λ e. ap (λ r. is_over b.places (meant b r)) (add-one f.at) ∙ over_of_silent b proper (suc f.at) (λ j l. t.ending e j (all_below_lem b.workers f.ready all j l));
        }

  counted_true : (f : F.Foreman) → TrueForeman b f → TrueOrder (F.counted b.workers f)
  counted_true f t =
      cond_both (all_below b.workers f.ready) (record { state = Some (F.advanced f); appends = []; says = to_all b.workers (F.saying (F.advanced f)); outcome = Taken }) (F.unmoved f Taken) TrueOrder
      (λ e. record { state = advanced_true f t e; says = to_all_true (F.saying (F.advanced f)) (saying_true (F.advanced f) (advanced_true f t e)) })
      (λ e. record { state = t; says = tt })

  module _ (f : F.Foreman) (t : TrueForeman b f) where
    pub foreman_ticked_true : TrueOrder (F.ticked b.workers f)
    foreman_ticked_true =
        ticked_any b.workers f TrueOrder (waited_true f t) (waited_true (quieter f) (record { ending = t.ending; over = t.over }))
        (record { state = t; says = to_all_true (F.saying f) (saying_true f t) })
        (begins_true f f.noted (Began (f.attempt + 1) ∷ []))

    with_ready_true : (j : ℕ) (e : Bool) → e ≡ silent_meant b j (suc f.at) → TrueForeman b (F.with_ready f j e)
    with_ready_true j e is =
        record {
          ending = λ both k h.
              let p = and_parts f.ending e both in
              ⊎_elim (λ s. ap (λ u. silent_meant b u (suc f.at)) (eqb-true k j s) ∙ sym is ∙ p.1) (λ s. t.ending p.0 k s) (or_cases (eqb k j) (f.ready k) h);
          over = t.over;
        }

    with_kept_true : (j r nr : ℕ) → TrueForeman b (F.with_kept f j r nr)
    with_kept_true j r nr = record { ending = t.ending; over = t.over }

    notes_true : (j r : ℕ) → TrueOrder (F.notes b.workers f j r)
    notes_true j r =
        let least : ℕ = F.least_kept b.workers f j r in
        cond_both (ltb f.noted least) (record { state = Some (F.with_kept f j r least); appends = Noted least ∷ []; says = []; outcome = Taken }) (F.unmoved (F.with_kept f j r f.noted) Taken) TrueOrder
        (λ e. record { state = with_kept_true j r least; says = tt })
        (λ e. record { state = with_kept_true j r f.noted; says = tt })

    foreman_taking_true : (j : ℕ) (m : Message) → Clear (F.reasons b.workers f j m) → TrueMessage b j m → TrueOrder (F.taking b.workers f j m)
    foreman_taking_true j (Ready k r e) c m =
        let a = not-false (eqb k f.attempt && eqb r f.at && not f.over && not (f.ready j)) c.stale in
        let now = (and_parts (eqb k f.attempt && eqb r f.at) (not f.over) (and_parts (eqb k f.attempt && eqb r f.at && not f.over) (not (f.ready j)) a).0).0 in
        let round : r ≡ f.at = eqb-true r f.at (and_parts (eqb k f.attempt) (eqb r f.at) now).1 in
        counted_true (F.with_ready f j e) (with_ready_true j e (m ∙ ap (λ u. silent_meant b j (suc u)) round))
    foreman_taking_true j (PutBy k r) c m =
        cond_both (F.is_report f r) (F.begins b.workers f r (Noted r ∷ Began (f.attempt + 1) ∷ [])) (F.notes b.workers f j r) TrueOrder
        (λ e. begins_true f r (Noted r ∷ Began (f.attempt + 1) ∷ []))
        (λ e. notes_true j r)
    foreman_taking_true j (Hello k) c m = begins_true f f.noted (Began (f.attempt + 1) ∷ [])
    foreman_taking_true j (Batch k r s to ls) c m = record { state = t; says = tt }
    foreman_taking_true j (Go k r nr e) c m = record { state = t; says = tt }
    foreman_taking_true j (Anew k r) c m = record { state = t; says = tt }

    pub foreman_took_true : (j : ℕ) (m : Message) → TrueMessage b j m → TrueOrder (F.took b.workers f j m)
    foreman_took_true j m h =
        let o : Outcome = judged (F.reasons b.workers f j m) in
        cond_both (is_taken o) (F.taking b.workers f j m) (F.unmoved f o) TrueOrder
        (λ e. foreman_taking_true j m (clear (F.reasons b.workers f j m) e) h)
        (λ e. record { state = t; says = tt })
