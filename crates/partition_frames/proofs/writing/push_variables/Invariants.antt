use Rattle.std.proofs.Common.{◌≡◌, ◌++◌, length, take}
use Rattle.std.specs.Prelude.{flat_map}
use Rattle.partition_frames.specs.Field.{together}
use Rattle.partition_frames.specs.Frame.{number_field, variable_fields}
use Rattle.partition_frames.proofs.writing.push_variables.Given as goal

abbrev pub invariant-loop-i : goal.invariant-loop-i
invariant-loop-i l = l.out.items ≡ l.fn.out.items ++ together (number_field (length l.variables) ++ flat_map variable_fields (take l.i l.variables))
