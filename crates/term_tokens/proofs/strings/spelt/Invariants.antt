use Rattle.std.proofs.Common.{◌≡◌, length}
use Rattle.term_tokens.specs.Lexed.{with_bytes, spelt_at}
use Rattle.term_tokens.proofs.strings.spelt.Given as goal

-- what is pushed already, with what is still to come
abbrev pub invariant-loop-value : goal.invariant-loop-value
invariant-loop-value l = with_bytes l.bytes.items (spelt_at l.rest) ≡ spelt_at l.text

abbrev pub decreases-loop-value : goal.decreases-loop-value
decreases-loop-value l = length l.rest
