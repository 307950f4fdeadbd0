use Rattle.std.proofs.Common.{◌≡◌, ◌++◌, drop, option_map}
use Rattle.term_values.specs.Views.{all_of, named_of, named}
use Rattle.project_file.proofs.entries.pair_entries.Given as goal

abbrev pub invariant-loop-key : goal.invariant-loop-key
invariant-loop-key l = option_map (λ rest. named l.entries.items ++ rest) (all_of named_of (drop l.key-index l.pairs)) ≡ all_of named_of l.pairs
