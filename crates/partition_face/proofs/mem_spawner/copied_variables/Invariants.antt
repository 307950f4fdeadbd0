use Rattle.std.proofs.Common.{◌≡◌, take}
use Rattle.partition_face.proofs.mem_spawner.copied_variables.Given as goal

abbrev pub invariant-loop-variable : goal.invariant-loop-variable
invariant-loop-variable l = l.copied ≡ take l.variable-index l.variables
