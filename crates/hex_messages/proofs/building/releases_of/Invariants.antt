use Rattle.std.proofs.Common.{length}
use Rattle.hex_messages.specs.Stands.{StandsRelease}
use Rattle.hex_messages.proofs.BuildLemmas.{Made}
use Rattle.hex_messages.proofs.building.releases_of.Given as goal

abbrev pub invariant-loop-value : goal.invariant-loop-value
invariant-loop-value l = Made StandsRelease 1 l.text l.rest l.releases

abbrev pub decreases-loop-value : goal.decreases-loop-value
decreases-loop-value l = length l.rest
