-- What a writer in blocks holds.
-- Assumes nothing.
use Rattle.std.specs.Prelude.{ℕ, List, vec_items}
use Rattle.std.specs.declared.option.Option.{Option}
use Rattle.std.specs.Io.KnownBytes.{append_known}
use Rattle.rehearsal.specs.declared.blocks.Blocks.{Blocks}

-- the writer's bytes, where they are known, and then the lines that wait
abbrev pub contents_of : {W : Type 0} → (W → Option (List ℕ)) → Blocks W → Option (List ℕ)
contents_of contents b = append_known (contents b.out) (vec_items b.lines)
