use Rattle.std.proofs.Common.{◌≡◌, ◌++◌, drop, option_map}
use Rattle.term_values.specs.Views.{all_of}
use Rattle.project_file.specs.Entries.{word_of}
use Rattle.project_file.proofs.compilers.words.Given as goal

abbrev pub invariant-loop-item : goal.invariant-loop-item
invariant-loop-item l = option_map (λ rest. l.words ++ rest) (all_of word_of (drop l.item-index l.items)) ≡ all_of word_of l.items
