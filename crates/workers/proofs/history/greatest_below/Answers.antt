use Rattle.std.proofs.Common.{◌≡◌, List, [], ◌∷◌, rules, refl, sym, ap, ◌∙◌}
use Rattle.std.proofs.lemmas.Fn.{fold_over, fronts}
use Rattle.std.proofs.lemmas.Iterator.{YieldsList-from_slice}
use Rattle.crew.specs.Journals.{greatest_below}
use Rattle.crew.specs.Stored.{record_of, records_of}
use Rattle.crew.specs.declared.journal.Record.{Record}
use Rattle.meaning.specs.declared.numbers.Round.{Round}
use Rattle.std.proofs.lemmas.List.{map_push}
use Rattle.workers.proofs.Records.{greatest_last}
use Rattle.workers.proofs.history.greatest_below.Goals as goal

pub returns : goal.returns
returns c =
    fold_over fronts (λ y. y.now) _ (λ (ys : List Record) (a : Round). a.0 ≡ greatest_below 0 c.args.round.0 (records_of ys)) _
    (λ ys a x b f h k.
    let e : b.0 ≡ greatest_below a.0 c.args.round.0 (record_of x.now ∷ []) = search rules in (
      e ∙ ap (λ n. greatest_below n c.args.round.0 (record_of x.now ∷ [])) h ∙ sym (ap (greatest_below 0 c.args.round.0) (map_push record_of ys x.now) ∙ greatest_last 0 c.args.round.0 (records_of ys) (record_of x.now)),
      search rules,
    ))
    c.iter.result c.args.journal.now _ _ (YieldsList-from_slice {s = c.iter.result} c.args.journal.now cc).runs refl c.fold.ensures.ran
