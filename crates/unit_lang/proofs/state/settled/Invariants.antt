use Rattle.std.proofs.Common.{◌≡◌, length}
use Rattle.unit_lang.specs.Machine.{settled}
use Rattle.unit_lang.proofs.state.settled.Given as goal

abbrev pub invariant-loop-alloc : goal.invariant-loop-alloc
invariant-loop-alloc l = settled l.factor l.holes ≡ settled l.initial.factor l.initial.holes

abbrev pub decreases-loop-alloc : goal.decreases-loop-alloc
decreases-loop-alloc l = length l.holes
