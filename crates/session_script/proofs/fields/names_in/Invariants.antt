use Rattle.std.proofs.Common.{◌≡◌, ◌++◌, drop, option_map}
use Rattle.term_values.specs.Views.{all_of}
use Rattle.term_values.specs.Apps.{app_of}
use Rattle.session_script.proofs.fields.names_in.Given as goal

abbrev pub invariant-loop-item : goal.invariant-loop-item
invariant-loop-item l = option_map (λ rest. l.names ++ rest) (all_of app_of (drop l.item-index l.items)) ≡ all_of app_of l.items
