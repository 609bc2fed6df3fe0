use Rattle.std.proofs.Common.{◌≤◌, List, length, box_value, Option, ap, ◌∙◌, arith}
use Rattle.std.proofs.lemmas.Result.{IfOk-weaker}
use Rattle.meaning.specs.declared.letters.Letters.{Letters}
use Rattle.crew.specs.Worker.{merged_below}
use Rattle.batches.specs.Slots.{held}
use Rattle.workers.proofs.Slots.{merged_front}
use Rattle.workers.proofs.got.Got.merged.Goals as goal

pub returns : goal.returns
returns c =
    let xs = box_value c.args.self.now.slots in
    let long : c.args.table.now.workers ≤ length xs = omega (arith, c.args.self.now.all, c.args.table.now.many) in
    IfOk-weaker c.merge_all.result _ _
    (λ _ e. e ∙ ap (λ (l : List (Option Letters)). merged_below (held l) (length l)) c.of.ensures ∙ merged_front xs c.args.table.now.workers long)
    c.merge_all.ensures
