use Rattle.std.proofs.Common.{◌≡◌, List, [], ◌∷◌, rules, refl, sym, ap, ◌∙◌}
use Rattle.std.proofs.lemmas.Fn.{fold_over, fronts}
use Rattle.std.proofs.lemmas.Iterator.{YieldsList-from_slice}
use Rattle.crew.specs.Journals.{last_joined}
use Rattle.crew.specs.Stored.{record_of, records_of}
use Rattle.crew.specs.declared.journal.Record.{Record}
use Rattle.crew.specs.declared.numbers.Attempt.{Attempt}
use Rattle.std.proofs.lemmas.List.{map_push}
use Rattle.workers.proofs.Records.{joined_last}
use Rattle.workers.proofs.history.last_joined.Goals as goal

pub returns : goal.returns
returns c =
    fold_over fronts (λ y. y.now) _ (λ (ys : List Record) (a : Attempt). a.0 ≡ last_joined 0 (records_of ys)) _
    (λ ys a x b f h k.
    let e : b.0 ≡ last_joined a.0 (record_of x.now ∷ []) = search rules in (
      e ∙ ap (λ n. last_joined n (record_of x.now ∷ [])) h ∙ sym (ap (last_joined 0) (map_push record_of ys x.now) ∙ joined_last 0 (records_of ys) (record_of x.now)),
      search rules,
    ))
    c.iter.result c.args.journal.now _ _ (YieldsList-from_slice {s = c.iter.result} c.args.journal.now cc).runs refl c.fold.ensures.ran
