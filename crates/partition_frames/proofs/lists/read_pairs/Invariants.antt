use Rattle.std.proofs.Common.{◌≡◌, ◌++◌, length}
use Rattle.std.specs.Prelude.{flat_map}
use Rattle.std.specs.List.{AllByRecursion}
use Rattle.partition_frames.specs.Frame.{IsVariable, variable_fields}
use Rattle.partition_frames.specs.Field.{together}
use Rattle.partition_frames.proofs.lists.read_pairs.Given as goal

abbrev pub invariant-pairs : goal.invariant-pairs
invariant-pairs l = record {
  many : length l.pairs.items ≡ l.counter;
  fits : AllByRecursion IsVariable l.pairs.items;
  cut : l.text ≡ together (flat_map variable_fields l.pairs.items) ++ l.rest;
}
