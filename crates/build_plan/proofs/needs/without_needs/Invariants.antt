use Rattle.std.proofs.Common.{◌≡◌, [], replicate}
use Rattle.build_plan.proofs.needs.without_needs.Given as goal

abbrev pub invariant-loop : goal.invariant-loop
invariant-loop l = l.needs.items ≡ replicate l.counter []
