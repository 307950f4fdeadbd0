use Rattle.std.proofs.Common.{◌≡◌, ◌+◌, ◌≤◌, ◌++◌, length, reverse, vec_len, vec_capacity}
use Rattle.partition_core.specs.Lots.{fates_of}
use Rattle.partition_core.proofs.table.fates.Given as goal

abbrev pub invariant-loop-lot : goal.invariant-loop-lot
invariant-loop-lot l = record {
  same : fates_of l.lots.items ++ reverse l.spare.items ≡ fates_of l.initial.lots.items;
  room : length l.lots.items + length l.spare.items ≤ vec_capacity l.spare;
}

abbrev pub decreases-loop-lot : goal.decreases-loop-lot
decreases-loop-lot l = vec_len l.lots
