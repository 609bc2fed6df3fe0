use Rattle.std.proofs.Common.{◌≤◌, ℕ, length, arith, rules, ◌++◌, map, refl, vec_items, ap, ◌∙◌}
use borrow.Author.Tests.{tests}
use Rattle.std.proofs.lemmas.Iterator.{YieldsList-from_range, YieldsList-from_zip, YieldsList-from_map}
use Rattle.std.proofs.lemmas.Iterator.Adapters.{YieldsList-from_vec, items_from_extend}
use Rattle.std.proofs.lemmas.List.{map-append}
use Rattle.std.proofs.lemmas.Result.{IfOk-weaker}
use Rattle.std.specs.List.{range_with_len, zip}
use Rattle.crew.specs.Stored.{parcel_of, parcels_of}
use Rattle.workers.proofs.Sending.{numbered}
use Rattle.meaning.specs.declared.letters.Letters.{Letters}
use Rattle.crew.specs.declared.message.Kind.TheVariants.{Batch}
use Rattle.crew.specs.declared.message.Parcel.{Parcel}
use Rattle.workers.proofs.saying.send_parts.Goals as goal

pub returns : goal.returns
returns c =
    let made : ℕ × Letters → Parcel = λ x. record { from = c.args.me; to = record { 0 = x.0 }; kind = Batch (record { attempt = c.args.attempt; round = c.args.round; from = c.args.me; to = record { 0 = x.0 } }); letters = x.1 } in
    let h = items_from_extend c.extend.result c.extend.ensures.ran (YieldsList-from_map _ made (YieldsList-from_zip (YieldsList-from_range 0 64 64 (cc) refl) (YieldsList-from_vec (vec_items c.args.parts) (cc) (search rules))) c.map.ensures.closure (λ x r q k. search (rules, tests))) in
    let few : length (vec_items c.args.parts) ≤ 64 = omega (arith, c.args.parts.ok.0, c.requires) in
    IfOk-weaker c.extend.result _ _
    (λ _ e.
    ap parcels_of e.0
    ∙ map-append parcel_of (vec_items c.args.says.now) (map made (zip (range_with_len 0 64) (vec_items c.args.parts)))
    ∙ ap (λ l. parcels_of (vec_items c.args.says.now) ++ l) (numbered c.args.me.0 c.args.attempt.0 c.args.round.0 parcel_of made (λ j x. refl) 0 64 (vec_items c.args.parts) few))
    h
