use Rattle.std.proofs.Common.{◌≡◌, ◌++◌, reverse, length}
use Rattle.mix_lock.proofs.entries.reversed.Given as goal

abbrev pub invariant-loop-pair : goal.invariant-loop-pair
invariant-loop-pair l = l.rest.items ++ reverse l.pairs ≡ reverse l.fn.pairs

abbrev pub decreases-loop-pair : goal.decreases-loop-pair
decreases-loop-pair l = length l.pairs
