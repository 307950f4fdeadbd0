use Rattle.std.proofs.Common.{◌≡◌, ◌++◌, drop, option_map}
use Rattle.term_values.specs.Views.{all_of}
use Rattle.dep_options.specs.Options.{variable_of}
use Rattle.dep_options.proofs.values.pair_variables.Given as goal

abbrev pub invariant-loop-name : goal.invariant-loop-name
invariant-loop-name l = option_map (λ rest. l.variables ++ rest) (all_of variable_of (drop l.name-index l.pairs)) ≡ all_of variable_of l.pairs
