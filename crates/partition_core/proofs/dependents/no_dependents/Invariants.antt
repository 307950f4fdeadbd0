use Rattle.std.proofs.Common.{◌≡◌, [], replicate}
use Rattle.partition_core.proofs.dependents.no_dependents.Given as goal

abbrev pub invariant-loop : goal.invariant-loop
invariant-loop l = l.dependents.items ≡ replicate l.counter []
