use Rattle.std.proofs.Common.{◌≡◌, length}
use Rattle.term_tokens.specs.Names.{is_name_rest}
use Rattle.term_print.proofs.scalars.is_name_rest.Given as goal

abbrev pub invariant-loop-rest : goal.invariant-loop-rest
invariant-loop-rest l = is_name_rest l.rest ≡ is_name_rest l.bytes

abbrev pub decreases-loop-rest : goal.decreases-loop-rest
decreases-loop-rest l = length l.rest
