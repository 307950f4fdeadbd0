use Rattle.hex_messages.proofs.VarintLemmas.{Digits}
use Rattle.hex_messages.proofs.varint.push_varint.Given as goal

abbrev pub invariant-loop-rest : goal.invariant-loop-rest
invariant-loop-rest l = Digits l.initial.out.items l.out.items l.number l.rest

abbrev pub decreases-loop-rest : goal.decreases-loop-rest
decreases-loop-rest l = l.rest
