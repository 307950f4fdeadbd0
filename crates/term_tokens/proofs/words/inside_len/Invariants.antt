use Rattle.std.proofs.Common.{◌≡◌, ◌+◌, length}
use Rattle.term_tokens.specs.Lexing.{inside_len}
use Rattle.term_tokens.proofs.words.inside_len.Given as goal

abbrev pub invariant-loop-rest : goal.invariant-loop-rest
invariant-loop-rest l = (l.len + inside_len l.rest ≡ inside_len l.text) × (l.len + length l.rest ≡ length l.text)

abbrev pub decreases-loop-rest : goal.decreases-loop-rest
decreases-loop-rest l = length l.rest
