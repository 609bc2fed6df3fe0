-- The pace of a worker: each call keeps it, and no message that was said finds it unready or without its checkpoint.
-- Assumes nothing.
use Rattle.std.proofs.Common.{◌≡◌, ℕ, suc, ◌+◌, ◌<◌, ◌≤◌, Bool, true, false, cond, not, ◌&&◌, eqb, ltb, ◌⊎◌, List, [], ◌∷◌, ◌++◌, map, length, is_some, Some, None, Option, sym, refl, ap, ◌∙◌, subst, inl, inr, append-nil, arith}
use Rattle.std.specs.List.{range_with_len, AllByRecursion}
use Rattle.std.proofs.ByRecursion.{All-append}
use Rattle.std.proofs.lemmas.Bool.{eqb-true, ne_eqb, leb-false, not-false, not_from_true, and_parts, and_from, cases_eq, false≢true, both_ways}
use Rattle.meaning.specs.Caps.{round_cap}
use Rattle.meaning.specs.Meaning.{Letter, View}
use Rattle.crew.specs.Job.{Job, all_below}
use Rattle.crew.specs.Journals.{Record, Checkpoint, Joined, last_joined, greatest_below}
use Rattle.crew.specs.Messages.{Message, Batch, Ready, Go, Anew, PutBy, Hello, Parcel}
use Rattle.crew.specs.Outcomes.{Taken, outcome_number, judged, is_taken, only_full}
use Rattle.crew.specs.Worker.{Worker, is_ready, is_due, is_silent, batch_to, to_foreman, says_batches, says_ready, says_put_by, nothing_got, joined_at, out_of, first_share, opened, ticked, is_idle, with_worked, did_work, works, unmoved, reasons, with_batch, next_share, share_at, taking, answer, took}
use Rattle.runs.specs.World.{Machine, Call, Open, Take, Tick, Work, by_worker, worker_call}
use Rattle.runs.proofs.Lists.{nobody, only, all_made, all_below_lem, below_all}
use Rattle.runs.proofs.Journals.{level, has, has_more, has_new, level_joined, level_kept}
use Rattle.runs.proofs.Outcomes.{clear, not_lacking}
use Rattle.runs.proofs.Pace.{done_by, Stored, starts_at, Ghost, In, Own, Told, SaidBy, Follows, Grows, grows_not, starts_grows, Moves}

abbrev at : Option Worker → List Record → Machine Worker Record
at o js = record { up = o; journal = js }

one_more : (t : Bool) → cond t 1 0 ≤ 1
one_more true = omega arith
one_more false = omega arith

one_more_is : (t : Bool) → 1 ≤ cond t 1 0 → t ≡ true
one_more_is true h = refl
one_more_is false h = absurd (omega arith)

one_is : (t : Bool) → t ≡ true → 1 ≤ cond t 1 0
one_is true e = omega arith
one_is false e = absurd (false≢true e)

ready_more : (n : ℕ) (p q r s : Bool) → (p ≡ true → r ≡ true) → (q ≡ true → s ≡ true) → n + cond (p && q) 1 0 ≤ n + cond (r && s) 1 0
ready_more n true true r s f g = let e : 1 ≤ cond (r && s) 1 0 = one_is (r && s) (and_from r s (f refl) (g refl)) in omega arith
ready_more n true false r s f g = omega arith
ready_more n false q r s f g = omega arith

module _ (b : Job) (g : Ghost) where
  pub done_most : (y : Worker) → done_by b y ≤ y.round + 1
  done_most y = let h : cond (is_ready b y) 1 0 ≤ 1 = one_more (is_ready b y) in omega arith

  done_ready : (y : Worker) → is_ready b y ≡ true → y.round < done_by b y
  done_ready y e = let h : 1 ≤ cond (is_ready b y) 1 0 = one_is (is_ready b y) e in omega arith

  pub done_now : (y : Worker) → y.round < done_by b y → is_ready b y ≡ true
  done_now y l = one_more_is (is_ready b y) (omega arith)

  -- NEVER UNREADY

  -- a go that is not stale is one to the round that the attempt came to
  go_next : (js : List Record) (y : Worker) → Own b g (at (Some y) js) → (k r : ℕ) → r ≤ g.top k → not (y.joined && eqb k y.attempt && eqb r (y.round + 1)) ≡ false →
      (y.joined ≡ true) × (y.round + 1 ≤ g.top y.attempt) × (k ≡ y.attempt) × (r ≡ y.round + 1)
  go_next js y h k r le stale =
      let p = and_parts (y.joined && eqb k y.attempt) (eqb r (y.round + 1)) (not-false (y.joined && eqb k y.attempt && eqb r (y.round + 1)) stale) in
      let q = and_parts y.joined (eqb k y.attempt) p.0 in
      let s : r ≡ y.round + 1 = eqb-true r (y.round + 1) p.1 in
      let a : k ≡ y.attempt = eqb-true k y.attempt q.1 in
      let t : g.top k ≡ g.top y.attempt = ap g.top a in
      (q.0, omega arith, a, s)

  pub never_lacking : (i : ℕ) (js : List Record) (y : Worker) → Own b g (at (Some y) js) → (j : ℕ) (x : Machine Worker Record) (m : Message) → Told b g x m →
      (outcome_number (judged (reasons b i js y j m)) ≡ 5 → ⊥) × (outcome_number (judged (reasons b i js y j m)) ≡ 6 → ⊥)
  never_lacking i js y h j x (Batch k r f t ls) c = not_lacking (reasons b i js y j (Batch k r f t ls)) (λ m s. (refl, refl))
  never_lacking i js y h j x (Ready k r e) c = not_lacking (reasons b i js y j (Ready k r e)) (λ m s. (refl, refl))
  never_lacking i js y h j x (Go k r nr e) c = not_lacking (reasons b i js y j (Go k r nr e)) (λ m s. (not_from_true (is_ready b y) (ready s), refl))
    where
      ready : not (y.joined && eqb k y.attempt && eqb r (y.round + 1)) ≡ false → is_ready b y ≡ true
      ready s =
          let n = go_next js y h k r c.1 s in
          let t : y.round + 1 ≤ g.top y.attempt = n.1 in
          let d : g.top y.attempt ≤ done_by b y = (h.here y refl n.0).done in
          done_now y (omega arith)
  never_lacking i js y h j x (Anew k r) c = not_lacking (reasons b i js y j (Anew k r)) (λ m s. (refl, not_from_true (starts_at r js) (subst (λ (q : ℕ). starts_at q js ≡ true) (sym c.1) (h.starts k))))
  never_lacking i js y h j x (PutBy k r) c = not_lacking (reasons b i js y j (PutBy k r)) (λ m s. (refl, refl))
  never_lacking i js y h j x (Hello k) c = not_lacking (reasons b i js y j (Hello k)) (λ m s. (refl, refl))

  module _ (i : ℕ) where
    -- what worker i says, as machine x
    abbrev Says : Machine Worker Record → List Parcel → Type 0
    Says x s = AllByRecursion (SaidBy b g i x) s

    -- a move, with the journal then written as one likes
    moves_to : (x : Machine Worker Record) (o : Option Worker) (news : List Record) (s : List Parcel) (ks : List Record) → x.journal ++ news ≡ ks → length news ≤ 1 →
        Grows b x (at o ks) → Own b g (at o ks) → Says (at o ks) s → Moves b g i x (record { up = o; appends = news; says = s })
    moves_to x o news s ks e few grows own says =
        record {
          grows = subst (λ (l : List Record). Grows b x (at o l)) (sym e) grows;
          own = subst (λ (l : List Record). Own b g (at o l)) (sym e) own;
          says = subst (λ (l : List Record). Says (at o l) s) (sym e) says;
          few = few;
        }

    -- nothing changes; something may be said
    stays : (o : Option Worker) (js : List Record) (s : List Parcel) → Own b g (at o js) → Says (at o js) s → Moves b g i (at o js) (record { up = o; appends = []; says = s })
    stays o js s h says = moves_to (at o js) o [] s js (append-nil js) (omega arith) (grows_not b (at o js)) h says

    -- IT STAYS IN ITS ROUND

    abbrev having : Worker → Option View → (ℕ → Option (List Letter)) → Worker
    having y v c = record { joined = y.joined; attempt = y.attempt; round = y.round; share = y.share; worked = v; got = c; over = y.over; latest = y.latest }

    -- with more worked and got than before
    same_round : (js : List Record) (y : Worker) (v : Option View) (c : ℕ → Option (List Letter)) (s : List Parcel) → Own b g (at (Some y) js) → done_by b y ≤ done_by b (having y v c) →
        Says (at (Some (having y v c)) js) s → Moves b g i (at (Some y) js) (record { up = Some (having y v c); appends = []; says = s })
    same_round js y v c s h le says = moves_to (at (Some y) js) (Some z) [] s js (append-nil js) (omega arith)
        (record {
          rises = omega arith;
          keeps = λ t e. e;
          same = only (λ u. u.joined ≡ true → Follows b (at (Some y) js) u) z (λ j. inr (y, refl, j, refl, le));
        })
        (record {
          low = h.low;
          behind = h.behind;
          starts = h.starts;
          noted = h.noted;
          attempt = only (λ u. level js ≡ suc u.attempt) z (h.attempt y refl);
          here = only (λ u. u.joined ≡ true → In b g js u) z (λ j. (let n = h.here y refl j in record { low = n.low; high = n.high; done = (let d : g.top y.attempt ≤ done_by b y = n.done in omega arith); stored = n.stored; latest = n.latest; over = n.over }));
        })
        says
      where
        z : Worker
        z = having y v c

    -- what it says in a round
    says_batches_lem : (x : Machine Worker Record) (y : Worker) → Says x (says_batches b i y)
    says_batches_lem x y = go (is_some y.worked)
      where
        go : (t : Bool) → Says x (cond t (map (batch_to b i y) (range_with_len 0 b.workers)) [])
        go true = all_made (SaidBy b g i x) (batch_to b i y) (λ j. (refl, tt)) (range_with_len 0 b.workers)
        go false = tt

    says_ready_lem : (js : List Record) (y : Worker) → level js ≡ suc y.attempt → Says (at (Some y) js) (says_ready b i y)
    says_ready_lem js y l = go (is_ready b y) refl
      where
        go : (t : Bool) → is_ready b y ≡ t → Says (at (Some y) js) (cond t (to_foreman i (Ready y.attempt y.round (is_silent b y)) ∷ []) [])
        go true e = ((refl, record { joined = omega arith; done = only (λ u. u.joined ≡ true → u.attempt ≡ y.attempt → y.round < done_by b u) y (λ j a. done_ready y e) }), tt)
        go false e = tt

    says_putby : (js : List Record) (y : Worker) → Own b g (at (Some y) js) → y.joined ≡ true → Says (at (Some y) js) (says_put_by i y.attempt y.latest)
    says_putby js y h j = go y.latest refl
      where
        go : (o : Option ℕ) → y.latest ≡ o → Says (at (Some y) js) (says_put_by i y.attempt o)
        go None e = tt
        go (Some r) e =
            let n : In b g js y = h.here y refl j in
            let c = n.latest r e in
            let l : level js ≡ suc y.attempt = h.attempt y refl in
            let a : level js ≤ g.attempt + 1 = h.low in
            let le : r ≤ y.round = c.1 in
            ((refl, (omega arith, c.0, λ t d m q. n.stored t d m (omega arith))), tt)

    -- TICK AND WORK

    ticks : (js : List Record) (y : Worker) → Own b g (at (Some y) js) → Moves b g i (at (Some y) js) (by_worker (ticked b i y))
    ticks js y h = stays (Some y) js (ticked b i y).says h (go y.joined refl)
      where
        telling : y.joined ≡ true → (o : Bool) → Says (at (Some y) js) (cond o [] (says_batches b i y ++ says_ready b i y ++ says_put_by i y.attempt y.latest))
        telling j true = tt
        telling j false =
            All-append (SaidBy b g i (at (Some y) js)) (says_batches b i y ++ says_ready b i y) (says_put_by i y.attempt y.latest)
            (All-append (SaidBy b g i (at (Some y) js)) (says_batches b i y) (says_ready b i y) (says_batches_lem (at (Some y) js) y) (says_ready_lem js y (h.attempt y refl)))
            (says_putby js y h j)

        go : (t : Bool) → y.joined ≡ t → Says (at (Some y) js) (cond t (cond y.over [] (says_batches b i y ++ says_ready b i y ++ says_put_by i y.attempt y.latest)) (to_foreman i (Hello y.attempt) ∷ []))
        go true e = telling e y.over
        go false e = ((refl, tt), tt)

    does : (js : List Record) (y : Worker) → Own b g (at (Some y) js) → Moves b g i (at (Some y) js) (by_worker (works b i y))
    does js y h = go (is_idle y) (ltb y.round round_cap)
      where
        z : Worker
        z = with_worked b i y

        go : (s t : Bool) → Moves b g i (at (Some y) js) (by_worker (cond s (cond t (did_work b i z) (unmoved y (judged only_full))) (unmoved y Taken)))
        go true true = same_round js y z.worked y.got (says_batches b i z ++ says_ready b i z) h
            (ready_more y.round (is_some y.worked) (all_below b.workers (λ j. is_some (y.got j))) true (all_below b.workers (λ j. is_some (y.got j))) (λ e. refl) (λ e. e))
            (All-append (SaidBy b g i (at (Some z) js)) (says_batches b i z) (says_ready b i z) (says_batches_lem (at (Some z) js) z) (says_ready_lem js z (h.attempt y refl)))
        go true false = stays (Some y) js [] h tt
        go false t = stays (Some y) js [] h tt

    -- IT JOINS

    joins : (o : Option Worker) (js : List Record) → Own b g (at o js) → (k r : ℕ) (s : View) → level js ≤ k → k ≤ g.attempt → r ≡ g.from k →
        Moves b g i (at o js) (record { up = Some (joined_at k r s); appends = Joined k ∷ []; says = [] })
    joins o js h k r s new le e =
        record {
          grows = grows;
          few = omega arith;
          says = tt;
          own = record {
            low = omega (arith, l);
            behind = λ q m. h.behind q (omega (arith, l));
            starts = λ q. starts_grows b (at o js) (at (Some z) ks) grows (g.from q) (h.starts q);
            noted = starts_grows b (at o js) (at (Some z) ks) grows g.noted h.noted;
            attempt = only (λ u. level ks ≡ suc u.attempt) z l;
            here = only (λ u. u.joined ≡ true → In b g ks u) z (λ j. record { low = omega arith; high = omega (arith, t); done = omega (arith, t); stored = λ t d p q. absurd (omega arith); latest = λ q n. nobody n; over = λ q. sym (h.behind k new).1 });
          };
        }
      where
        z : Worker
        z = joined_at k r s

        ks : List Record
        ks = js ++ Joined k ∷ []

        l : level ks ≡ suc k
        l = level_joined js k

        t : g.top k ≡ g.from k
        t = (h.behind k new).0

        grows : Grows b (at o js) (at (Some z) ks)
        grows = record { rises = omega (arith, l); keeps = λ t e. has_more t js (Joined k ∷ []) e; same = only (λ u. u.joined ≡ true → Follows b (at o js) u) z (λ j. inl new) }

    opens : (js : List Record) → Own b g (at None js) → g.from 0 ≡ 0 → Moves b g i (at None js) (by_worker (opened b i js))
    opens [] h first = joins None [] h 0 0 (first_share b i) (omega arith) (omega arith) (sym first)
    opens (x ∷ xs) h first =
        moves_to (at None js) (Some z) [] (to_foreman i (Hello z.attempt) ∷ []) js (append-nil js) (omega arith)
        (record { rises = omega arith; keeps = λ t e. e; same = only (λ u. u.joined ≡ true → Follows b (at None js) u) z (λ j. absurd (false≢true j)) })
        (record { low = h.low; behind = h.behind; starts = h.starts; noted = h.noted; attempt = only (λ u. level js ≡ suc u.attempt) z refl; here = only (λ u. u.joined ≡ true → In b g js u) z (λ j. absurd (false≢true j)) })
        ((refl, tt), tt)
      where
        js : List Record
        js = x ∷ xs

        z : Worker
        z = out_of b i (last_joined 0 (x ∷ xs))

    -- IT GOES ON

    goes : (js : List Record) (y : Worker) → Own b g (at (Some y) js) → y.joined ≡ true → y.round + 1 ≤ g.top y.attempt → (e : Bool) → (y.round + 1 ≡ g.top y.attempt → e ≡ g.over y.attempt) → (t : Bool) → is_due (y.round + 1) ≡ t →
        Moves b g i (at (Some y) js) (record {
          up = Some (record { joined = y.joined; attempt = y.attempt; round = y.round + 1; share = next_share b y; worked = None; got = nothing_got; over = e; latest = cond t (Some (y.round + 1)) y.latest });
          appends = cond t (Checkpoint (y.round + 1) (next_share b y) ∷ []) [];
          says = cond t (to_foreman i (PutBy y.attempt (y.round + 1)) ∷ []) [];
        })
    goes js y h joined le e over t due = go t due
      where
        next : Option ℕ → Worker
        next o = record { joined = y.joined; attempt = y.attempt; round = y.round + 1; share = next_share b y; worked = None; got = nothing_got; over = e; latest = o }

        n : In b g js y
        n = h.here y refl joined

        l : level js ≡ suc y.attempt
        l = h.attempt y refl

        low : g.from y.attempt ≤ y.round
        low = n.low

        most : g.top y.attempt ≤ y.round + 1
        most = let p : g.top y.attempt ≤ done_by b y = n.done in let q : done_by b y ≤ y.round + 1 = done_most y in omega arith

        steps : (ks : List Record) (o : Option ℕ) → level ks ≡ level js → ((t : ℕ) → has t js ≡ true → has t ks ≡ true) → Grows b (at (Some y) js) (at (Some (next o)) ks)
        steps ks o s k = record {
          rises = omega arith;
          keeps = k;
          same = only (λ u. u.joined ≡ true → Follows b (at (Some y) js) u) (next o)
              (λ j. inr (y, refl, j, refl, (let q : done_by b y ≤ y.round + 1 = done_most y in omega arith)));
        }

        owns : (ks : List Record) (o : Option ℕ) → level ks ≡ level js → ((t : ℕ) → has t js ≡ true → has t ks ≡ true) → Stored (g.from y.attempt) (y.round + 1) ks →
            ((r : ℕ) → o ≡ Some r → (g.from y.attempt < r) × (r ≤ y.round + 1)) → Own b g (at (Some (next o)) ks)
        owns ks o s k stored latest =
            record {
              low = (let p : level js ≤ g.attempt + 1 = h.low in omega arith);
              behind = λ q m. h.behind q (omega arith);
              starts = λ q. starts_grows b (at (Some y) js) (at (Some (next o)) ks) (steps ks o s k) (g.from q) (h.starts q);
              noted = starts_grows b (at (Some y) js) (at (Some (next o)) ks) (steps ks o s k) g.noted h.noted;
              attempt = only (λ u. level ks ≡ suc u.attempt) (next o) (s ∙ l);
              here = only (λ u. u.joined ≡ true → In b g ks u) (next o) (λ j. record { low = omega (arith, low); high = le; done = omega (arith, most); stored = stored; latest = latest; over = over });
            }

        go : (t : Bool) → is_due (y.round + 1) ≡ t → Moves b g i (at (Some y) js) (record { up = Some (next (cond t (Some (y.round + 1)) y.latest)); appends = cond t (Checkpoint (y.round + 1) (next_share b y) ∷ []) []; says = cond t (to_foreman i (PutBy y.attempt (y.round + 1)) ∷ []) [] })
        go true due =
            record {
              grows = steps ks (Some (y.round + 1)) same more;
              few = omega arith;
              own = owns ks (Some (y.round + 1)) same more stored (λ r q. (let w : y.round + 1 ≡ r = cc in (omega (arith, low), omega arith)));
              says = ((refl, ((let p : level js ≤ g.attempt + 1 = h.low in omega (arith, l)), omega (arith, low), stored)), tt);
            }
          where
            ks : List Record
            ks = js ++ Checkpoint (y.round + 1) (next_share b y) ∷ []

            same : level ks ≡ level js
            same = level_kept js y.attempt l (y.round + 1) (next_share b y)

            more : (t : ℕ) → has t js ≡ true → has t ks ≡ true
            more t q = has_more t js (Checkpoint (y.round + 1) (next_share b y) ∷ []) q

            stored : Stored (g.from y.attempt) (y.round + 1) ks
            stored t d p q = pick (cases_eq t (y.round + 1))
              where
                pick : (t ≡ y.round + 1) ⊎ (t ≡ y.round + 1 → ⊥) → has t ks ≡ true
                pick (inl is) = subst (λ (u : ℕ). has u ks ≡ true) (sym is) (has_new js (y.round + 1) (next_share b y))
                pick (inr isnt) = more t (n.stored t d p (omega arith))
        go false due =
            moves_to (at (Some y) js) (Some (next y.latest)) [] [] js (append-nil js) (omega arith) (steps js y.latest refl (λ t q. q))
            (owns js y.latest refl (λ t q. q) stored (λ r q. ((n.latest r q).0, (let w : r ≤ y.round = (n.latest r q).1 in omega arith)))) tt
          where
            stored : Stored (g.from y.attempt) (y.round + 1) js
            stored t d p q = n.stored t d p (let isnt : t ≡ y.round + 1 → ⊥ = λ is. both_ways (is_due t) (ap is_due is ∙ due) d in omega arith)

    -- TAKING A MESSAGE

    takes : (js : List Record) (y : Worker) → Own b g (at (Some y) js) → (j : ℕ) (x : Machine Worker Record) (m : Message) → Told b g x m → Moves b g i (at (Some y) js) (by_worker (took b i js y j m))
    takes js y h j x (Batch k r f t ls) c = go (is_taken (judged (reasons b i js y j (Batch k r f t ls))))
      where
        z : Worker
        z = with_batch y j ls

        more : (q : ℕ) → is_some (y.got q) ≡ true → is_some (z.got q) ≡ true
        more q e = pick (eqb q j)
          where
            pick : (t : Bool) → is_some (cond t (Some ls) (y.got q)) ≡ true
            pick true = refl
            pick false = e

        go : (v : Bool) → Moves b g i (at (Some y) js) (by_worker (cond v (taking b i js y j (Batch k r f t ls)) (record { state = y; appends = []; says = []; outcome = judged (reasons b i js y j (Batch k r f t ls)) })))
        go true = same_round js y y.worked z.got (says_ready b i z) h
            (ready_more y.round (is_some y.worked) (all_below b.workers (λ q. is_some (y.got q))) (is_some y.worked) (all_below b.workers (λ q. is_some (z.got q))) (λ e. e)
            (λ e. below_all b.workers (λ q. is_some (z.got q)) (λ q l. more q (all_below_lem b.workers (λ q. is_some (y.got q)) e q l))))
            (says_ready_lem js z (h.attempt y refl))
        go false = stays (Some y) js [] h tt
    takes js y h j x (Ready k r e) c = stays (Some y) js [] h tt
    takes js y h j x (Go k r nr e) c = go (is_taken (judged (reasons b i js y j (Go k r nr e)))) refl
      where
        go : (v : Bool) → is_taken (judged (reasons b i js y j (Go k r nr e))) ≡ v → Moves b g i (at (Some y) js) (by_worker (cond v (taking b i js y j (Go k r nr e)) (record { state = y; appends = []; says = []; outcome = judged (reasons b i js y j (Go k r nr e)) })))
        go true q =
            let n = go_next js y h k r c.1 (clear (reasons b i js y j (Go k r nr e)) q).stale in
            goes js y h n.0 n.1 e (λ u. c.2 (n.3 ∙ u ∙ sym (ap g.top n.2)) ∙ ap g.over n.2) (is_due (y.round + 1)) refl
        go false q = stays (Some y) js [] h tt
    takes js y h j x (Anew k r) c = go (is_taken (judged (reasons b i js y j (Anew k r)))) refl
      where
        silent : answer i js (Anew k r) (judged (reasons b i js y j (Anew k r))) ≡ []
        silent = ap (λ (t : Bool). cond t (to_foreman i (PutBy k (greatest_below 0 r js)) ∷ []) []) (ne_eqb (outcome_number (judged (reasons b i js y j (Anew k r)))) 6 (never_lacking i js y h j x (Anew k r) c).1)

        go : (v : Bool) → is_taken (judged (reasons b i js y j (Anew k r))) ≡ v → Moves b g i (at (Some y) js) (by_worker (cond v (taking b i js y j (Anew k r)) (record { state = y; appends = []; says = answer i js (Anew k r) (judged (reasons b i js y j (Anew k r))); outcome = judged (reasons b i js y j (Anew k r)) })))
        go true q =
            let l : y.attempt < k = leb-false k y.attempt (clear (reasons b i js y j (Anew k r)) q).stale in
            let s : level js ≡ suc y.attempt = h.attempt y refl in
            joins (Some y) js h k r (share_at b i r js) (omega arith) c.0 c.1
        go false q = stays (Some y) js (answer i js (Anew k r) (judged (reasons b i js y j (Anew k r)))) h (subst (Says (at (Some y) js)) (sym silent) tt)
    takes js y h j x (PutBy k r) c = stays (Some y) js [] h tt
    takes js y h j x (Hello k) c = stays (Some y) js [] h tt

    -- ANY CALL

    -- what is heard was said by somebody
    abbrev pub Hearing : Call → Type 0
    Hearing Open = Unit {0}
    Hearing (Take j m) = (x : Machine Worker Record) × Told b g x m
    Hearing Tick = Unit {0}
    Hearing Work = Unit {0}

    pub calls : g.from 0 ≡ 0 → (c : Call) → Hearing c → (js : List Record) (o : Option Worker) → Own b g (at o js) → Moves b g i (at o js) (worker_call b i c js o)
    calls first Open t js None h = opens js h first
    calls first Open t js (Some y) h = stays (Some y) js [] h tt
    calls first (Take j m) t js None h = stays None js [] h tt
    calls first (Take j m) t js (Some y) h = takes js y h j t.0 m t.1
    calls first Tick t js None h = stays None js [] h tt
    calls first Tick t js (Some y) h = ticks js y h
    calls first Work t js None h = stays None js [] h tt
    calls first Work t js (Some y) h = does js y h
