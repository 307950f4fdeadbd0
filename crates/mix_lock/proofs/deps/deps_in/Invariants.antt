use Rattle.std.proofs.Common.{◌≡◌, ◌++◌, drop, option_map}
use Rattle.term_values.specs.Views.{all_of}
use Rattle.mix_lock.specs.Terms.{dep_of}
use Rattle.mix_lock.proofs.deps.deps_in.Given as goal

abbrev pub invariant-loop-item : goal.invariant-loop-item
invariant-loop-item l = option_map (λ rest. l.deps ++ rest) (all_of dep_of (drop l.item-index l.items)) ≡ all_of dep_of l.items
