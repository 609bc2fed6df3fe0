use Rattle.std.proofs.Common.{◌≡◌, ◌+◌, ◌*◌, ◌++◌, take, vec_items, vec_len, vec_capacity}
use Rattle.std.specs.List.{flat_map}
use Rattle.script.specs.Output.{hex_byte}
use Rattle.script.proofs.output.put_state.Given as goal

abbrev pub invariant-loop-byte : goal.invariant-loop-byte
invariant-loop-byte l = (vec_items l.out ≡ vec_items l.initial.out ++ flat_map hex_byte (take l.byte-index l.state)) × (vec_len l.out ≡ vec_len l.initial.out + 2 * l.byte-index) × (vec_capacity l.out ≡ vec_capacity l.initial.out)
