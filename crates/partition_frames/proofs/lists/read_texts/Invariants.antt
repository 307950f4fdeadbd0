use Rattle.std.proofs.Common.{◌≡◌, ◌++◌, length}
use Rattle.std.specs.Prelude.{flat_map}
use Rattle.std.specs.List.{AllByRecursion}
use Rattle.partition_frames.specs.Frame.{IsText, text_field}
use Rattle.partition_frames.specs.Field.{together}
use Rattle.partition_frames.proofs.lists.read_texts.Given as goal

abbrev pub invariant-texts : goal.invariant-texts
invariant-texts l = record {
  many : length l.texts.items ≡ l.counter;
  fits : AllByRecursion IsText l.texts.items;
  cut : l.text ≡ together (flat_map text_field l.texts.items) ++ l.rest;
}
