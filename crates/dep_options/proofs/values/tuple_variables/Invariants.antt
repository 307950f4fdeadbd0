use Rattle.std.proofs.Common.{◌≡◌, ◌++◌, drop, option_map}
use Rattle.term_values.specs.Views.{all_of}
use Rattle.dep_options.specs.Options.{tuple_variable_of}
use Rattle.dep_options.proofs.values.tuple_variables.Given as goal

abbrev pub invariant-loop-item : goal.invariant-loop-item
invariant-loop-item l = option_map (λ rest. l.variables ++ rest) (all_of tuple_variable_of (drop l.item-index l.items)) ≡ all_of tuple_variable_of l.items
