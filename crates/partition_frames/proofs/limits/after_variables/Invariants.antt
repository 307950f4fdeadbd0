use Rattle.std.proofs.Common.{◌≡◌, ◌+◌, map, drop, sum}
use Rattle.compile_model.specs.Planned.{sent_variable}
use Rattle.partition_frames.proofs.limits.after_variables.Given as goal

abbrev pub invariant-loop-variable : goal.invariant-loop-variable
invariant-loop-variable l = l.fn.room + sum (map sent_variable (drop l.variable-index l.variables)) ≡ l.room + sum (map sent_variable l.variables)
