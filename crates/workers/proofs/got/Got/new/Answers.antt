use Rattle.std.proofs.Common.{ℕ, List, get_or, None, Option, ap, ◌∙◌}
use Rattle.std.specs.Option.{option_map}
use Rattle.meaning.specs.Packets.{letters_of}
use Rattle.meaning.specs.declared.letters.Letters.{Letters}
use Rattle.workers.proofs.Slots.{get_or_same}
use Rattle.workers.proofs.got.Got.new.Goals as goal

pub returns : goal.returns
returns c =
    ap (λ (xs : List (Option Letters)). λ (j : ℕ). option_map letters_of (get_or xs j None)) c.in_ok-slots.ensures.ok
    ∙ (λ k j. option_map letters_of (get_or_same 64 j None k))
