use Rattle.std.proofs.Common.{◌≡◌, ◌∷◌, ◌++◌, length}
use Rattle.term_print.specs.Printed.{escaped}
use Rattle.term_print.proofs.scalars.print_string.Given as goal

abbrev pub invariant-loop-rest : goal.invariant-loop-rest
invariant-loop-rest l = l.out.items ++ escaped l.utf8 l.rest ≡ l.fn.out.items ++ 34 ∷ escaped l.utf8 l.bytes

abbrev pub decreases-loop-rest : goal.decreases-loop-rest
decreases-loop-rest l = length l.rest
