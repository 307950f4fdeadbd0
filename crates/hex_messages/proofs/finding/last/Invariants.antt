use Rattle.std.proofs.Common.{length}
use Rattle.std.specs.Prelude.{option_map}
use Rattle.hex_messages.specs.Reading.{payload_of}
use Rattle.hex_messages.proofs.FindLemmas.{LastSoFar}
use Rattle.hex_messages.proofs.finding.last.Given as goal

abbrev pub invariant-loop-value : goal.invariant-loop-value
invariant-loop-value l = LastSoFar l.number l.text l.rest (option_map payload_of l.found)

abbrev pub decreases-loop-value : goal.decreases-loop-value
decreases-loop-value l = length l.rest
