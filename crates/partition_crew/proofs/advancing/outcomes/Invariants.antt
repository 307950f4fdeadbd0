use Rattle.std.proofs.Common.{◌≡◌, ◌++◌, drop}
use Rattle.partition_core.specs.State.{outcomes_now}
use Rattle.partition_core.specs.Story.{state_now}
use Rattle.partition_crew.proofs.advancing.outcomes.Given as goal

abbrev pub invariant-loop-need : goal.invariant-loop-need
invariant-loop-need g l = l.outcomes.items ++ outcomes_now (state_now l.core).fates (drop l.need-index l.need-items) ≡ outcomes_now
    (state_now l.core).fates l.need-items
