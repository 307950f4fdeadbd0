use Rattle.std.proofs.Common.{◌≡◌, ◌++◌, map, reverse, length}
use Rattle.term_print.specs.Grammar.{pair_tuple}
use Rattle.elixir_terms.proofs.enclosed.tuples.Given as goal

abbrev pub invariant-loop-key : goal.invariant-loop-key
invariant-loop-key l = map pair_tuple l.pairs ++ reverse l.terms.items ≡ map pair_tuple l.fn.pairs

abbrev pub decreases-loop-key : goal.decreases-loop-key
decreases-loop-key l = length l.pairs
