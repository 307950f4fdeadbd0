use Rattle.std.proofs.Common.{◌≡◌, length}
use Rattle.conform_calls.proofs.openings.kept_of.Given as goal

abbrev pub invariant-loop-place : goal.invariant-loop-place
invariant-loop-place l = length l.kept.items ≡ l.place
