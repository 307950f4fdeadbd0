use Rattle.std.proofs.Common.{◌≡◌, length}
use Rattle.term_tokens.specs.Lexed.{stuck_past, stuck_at}
use Rattle.term_tokens.proofs.stuck.stuck.Given as goal

-- what is left of the text gives the same place after the bytes at hand
abbrev pub invariant-loop-value : goal.invariant-loop-value
invariant-loop-value l = stuck_past l.rest 0 l.bytes.items ≡ stuck_at l.text

abbrev pub decreases-loop-value : goal.decreases-loop-value
decreases-loop-value l = length l.rest
