use Rattle.std.proofs.Common.{◌≡◌, ℕ, ◌*◌, ◌+◌, ◌<◌, ◌≤◌, true, Some, length, slice_get}
use Rattle.partition_core.proofs.place_set.first_in.Given as goal

abbrev pub invariant-loop-at : goal.invariant-loop-at
invariant-loop-at l = record {
  within : 64 * l.block + l.at ≤ length l.flags;
  dark : (place : ℕ) → 64 * l.block ≤ place → place < 64 * l.block + l.at → slice_get l.flags place ≡ Some true → ⊥;
}
