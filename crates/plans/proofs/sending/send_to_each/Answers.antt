use Rattle.std.proofs.Common.{◌≡◌, ℕ, [], ◌∷◌, ◌++◌, map, Option, None, List, refl, sym, ap, ◌∙◌, rules}
use borrow.Author.Tests.{tests}
use Rattle.std.specs.Iterator.{Yields}
use Rattle.std.specs.List.{filter_map}
use Rattle.std.specs.Slice.Iter.{iter_rest}
use Rattle.std.proofs.lemmas.Iterator.{YieldsList, YieldsList-from_slice}
use Rattle.std.proofs.lemmas.Iterator.Consumers.{YieldsList-from_filter_map, YieldsList-end, YieldsList-at}
use Rattle.std.proofs.lemmas.List.{map_push, map-id}
use Rattle.meaning.specs.Mail.{post_of, mailed}
use Rattle.meaning.specs.Meaning.{Sent}
use Rattle.plans.proofs.Mailing.{to_all, to_all_there, mailed_more}
use Rattle.plans.proofs.sending.send_to_each.Goals as goal

pub loop-to-preserved : goal.loop-to-preserved
loop-to-preserved c =
    let body = c.args.body.now in
    let letter : ℕ → Sent = λ v. record { to = v; bytes = body } in
    mailed_more (post_of c.args.out.now) (post_of c.loop-to.out) (post_of c.send.new.out)
    (to_all body c.loop-to.yielded) (letter c.in-Some.to ∷ []) (to_all body (c.loop-to.yielded ++ c.in-Some.to ∷ []))
    c.loop-to.invariant c.send.ensures (sym (map_push letter c.loop-to.yielded c.in-Some.to))

-- what came up to the end is all that comes
up_to_end : {S A B : Type 0} {steps : S → Option A → S → Type 0} {v : A → B} {s : S} {all : List B} (xs : List A) (t u : S) → Yields steps s xs t → steps t None u → YieldsList steps v s all → map v xs ≡ all
up_to_end xs t u took ends road = (YieldsList-end road xs t took None u refl ends).0

pub returns : goal.returns
returns c =
    let body = c.args.body.now in
    let places = c.args.places.now in
    let same = c.into_iter-to-iterator.ensures.into_iter_gives in
    let there : map (λ (v : ℕ). v) c.loop-to.yielded ≡ filter_map (λ p. p) places =
    up_to_end c.loop-to.yielded c.loop-to.to-iterator c.next.new.self c.loop-to.yielded_by c.in-None.ensures.steps
    (YieldsList-at same (YieldsList-from_filter_map _ (λ (p : Option ℕ). p) (YieldsList-from_slice places (ap iter_rest c.filter_map-to-items.ensures.source ∙ c.iter.ensures.rest)) c.filter_map-to-items.ensures.closure (λ x r q k. search (rules, tests)))) in
    c.loop-to.invariant ∙ ap (λ vs. mailed (post_of c.args.out.now) (to_all body vs)) (sym (map-id c.loop-to.yielded) ∙ there) ∙ ap (mailed (post_of c.args.out.now)) (to_all_there body places)
