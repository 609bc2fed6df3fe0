-- Which refusal it comes to, reason by reason.
use Rattle.std.proofs.Common.{◌≡◌, Bool, true, false, cond, is_some, Some, None, Option, sym, refl, ap, ◌∙◌}
use Rattle.std.specs.Option.{option_map}
use Rattle.crew.specs.Outcomes.{Outcome}

-- this one holds
pub stop : (b : Bool) (x rest : Outcome) → b ≡ true → x ≡ cond b x rest
stop b x rest e = ap (λ t. cond t x rest) (sym e)

-- this one doesn't
pub skip : (b : Bool) (x y rest : Outcome) → b ≡ false → y ≡ rest → y ≡ cond b x rest
skip b x y rest e p = p ∙ ap (λ t. cond t x rest) (sym e)

pub some_mapped : {X Y : Type 0} (f : X → Y) (o : Option X) → is_some o ≡ is_some (option_map f o)
some_mapped f None = refl
some_mapped f (Some x) = refl
