use Rattle.std.proofs.Common.{◌≡◌, ◌++◌, drop, option_map}
use Rattle.term_values.specs.Views.{all_of}
use Rattle.term_values.specs.Apps.{app_of}
use Rattle.dep_options.proofs.values.apps_of.Given as goal

abbrev pub invariant-loop-term : goal.invariant-loop-term
invariant-loop-term l = option_map (λ rest. l.names ++ rest) (all_of app_of (drop l.term-index l.terms)) ≡ all_of app_of l.terms
