use Rattle.std.proofs.Common.{◌≡◌, [], replicate}
use Rattle.dep_order.proofs.dependents.without_dependents.Given as goal

abbrev pub invariant-loop : goal.invariant-loop
invariant-loop l = l.dependents.items ≡ replicate l.counter []
