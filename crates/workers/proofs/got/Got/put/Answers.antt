use Rattle.std.proofs.Common.{◌≡◌, ◌<◌, cond, eqb, length, get_or, Some, None, box_value, ap, ◌∙◌, arith}
use Rattle.std.specs.Option.{option_map}
use Rattle.meaning.specs.Packets.{letters_of}
use Rattle.workers.proofs.Slots.{get_or_put, mapped_cond}
use Rattle.workers.proofs.got.Got.put.Goals as goal

pub returns : goal.returns
returns c =
    let s = c.deref_mut.result.now in
    let j = c.from.result in
    let is : s ≡ box_value c.args.self.now.slots = c.deref_mut.ensures.value in
    let lt : j < length s = omega (arith, ap length is, c.args.self.now.all, c.from.ensures, c.requires) in
    λ i k. (ap (option_map letters_of) (get_or_put s j k (Some c.args.letters) None lt) ∙ mapped_cond letters_of (eqb k j) (Some c.args.letters) (get_or s k None) ∙ ap (λ xs. cond (eqb k j) (Some (letters_of c.args.letters)) (option_map letters_of (get_or xs k None))) is ∙ ap (λ n. cond (eqb k n) (Some (letters_of c.args.letters)) (option_map letters_of (get_or (box_value c.args.self.now.slots) k None))) c.from.ensures) i
