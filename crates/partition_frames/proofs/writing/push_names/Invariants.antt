use Rattle.std.proofs.Common.{◌≡◌, ◌++◌, length, take}
use Rattle.std.specs.Prelude.{flat_map}
use Rattle.std.specs.List.{AllByRecursion}
use Rattle.mx_base.specs.AppName.{IsAppName}
use Rattle.partition_frames.specs.Field.{together}
use Rattle.partition_frames.specs.Frame.{number_field, text_field}
use Rattle.partition_frames.proofs.writing.push_names.Given as goal

abbrev pub invariant-loop-i : goal.invariant-loop-i
invariant-loop-i l = record {
  bytes : l.out.items ≡ l.fn.out.items ++ together (number_field (length l.names) ++ flat_map text_field (take l.i l.names));
  known : AllByRecursion IsAppName (take l.i l.names);
}
