use Rattle.std.proofs.Common.{length}
use Rattle.mix_lock.specs.Says.{AreRead}
use Rattle.mix_lock.proofs.entries.are_read.Given as goal

abbrev pub invariant-loop-rest : goal.invariant-loop-rest
invariant-loop-rest l = record { on : AreRead l.rest → AreRead l.deps; back : AreRead l.deps → AreRead l.rest }

abbrev pub decreases-loop-rest : goal.decreases-loop-rest
decreases-loop-rest l = length l.rest
