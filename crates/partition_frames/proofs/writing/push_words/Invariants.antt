use Rattle.std.proofs.Common.{◌≡◌, ◌++◌, length, take}
use Rattle.std.specs.Prelude.{flat_map}
use Rattle.partition_frames.specs.Field.{together}
use Rattle.partition_frames.specs.Frame.{number_field, text_field}
use Rattle.partition_frames.proofs.writing.push_words.Given as goal

abbrev pub invariant-loop-i : goal.invariant-loop-i
invariant-loop-i l = l.out.items ≡ l.fn.out.items ++ together (number_field (length l.words) ++ flat_map text_field (take l.i l.words))
