use Rattle.std.proofs.Common.{◌≡◌, map, take}
use Rattle.build_plan.specs.Options.{variable_term}
use Rattle.build_plan.proofs.options.pairs_term.Given as goal

abbrev pub invariant-loop-variable : goal.invariant-loop-variable
invariant-loop-variable l = l.parts ≡ map variable_term (take l.variable-index l.variables)
