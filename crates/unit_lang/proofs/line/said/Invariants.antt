use Rattle.std.proofs.Common.{length}
use Rattle.unit_lang.specs.Tokens.{without_comment}
use Rattle.unit_lang.proofs.Reached.{Reached}
use Rattle.unit_lang.proofs.line.said.Given as goal

-- the tokens so far lead to the state
abbrev pub invariant-loop-rest : goal.invariant-loop-rest
invariant-loop-rest l = Reached (without_comment l.line) l.progress.state l.progress.great l.rest

abbrev pub decreases-loop-rest : goal.decreases-loop-rest
decreases-loop-rest l = length l.rest
