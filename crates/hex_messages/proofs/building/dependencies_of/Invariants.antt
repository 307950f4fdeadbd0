use Rattle.std.proofs.Common.{length}
use Rattle.hex_messages.specs.Stands.{StandsDependency}
use Rattle.hex_messages.proofs.BuildLemmas.{Made}
use Rattle.hex_messages.proofs.building.dependencies_of.Given as goal

abbrev pub invariant-loop-value : goal.invariant-loop-value
invariant-loop-value l = Made StandsDependency 3 l.text l.rest l.dependencies

abbrev pub decreases-loop-value : goal.decreases-loop-value
decreases-loop-value l = length l.rest
