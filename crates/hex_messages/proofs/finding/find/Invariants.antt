use Rattle.std.proofs.Common.{length}
use Rattle.hex_messages.proofs.FindLemmas.{Passed}
use Rattle.hex_messages.proofs.finding.find.Given as goal

abbrev pub invariant-loop-rest : goal.invariant-loop-rest
invariant-loop-rest l = Passed l.number l.text l.rest

abbrev pub decreases-loop-rest : goal.decreases-loop-rest
decreases-loop-rest l = length l.rest
