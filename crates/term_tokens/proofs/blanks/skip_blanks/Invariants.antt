use Rattle.std.proofs.Common.{◌≤◌, List, ℕ, length}
use Rattle.term_tokens.specs.Tokens.{Blanks}
use Rattle.term_tokens.proofs.blanks.skip_blanks.Given as goal

-- what blanks lead to from the rest, they lead to from the text
abbrev pub invariant-loop-after : goal.invariant-loop-after
invariant-loop-after l = ((end : List ℕ) → Blanks l.rest end → Blanks l.text end) × (length l.rest ≤ length l.text)

abbrev pub decreases-loop-after : goal.decreases-loop-after
decreases-loop-after l = length l.rest
