use Rattle.std.proofs.Common.{◌≡◌, ℕ, ◌*◌, ◌<◌, true, Some, slice_get}
use Rattle.partition_core.proofs.place_set.first_of.Given as goal

abbrev pub invariant-loop-block : goal.invariant-loop-block
invariant-loop-block l = (place : ℕ) → place < 64 * l.block → slice_get l.flags place ≡ Some true → ⊥
