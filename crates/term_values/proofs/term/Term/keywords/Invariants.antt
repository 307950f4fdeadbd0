use Rattle.std.proofs.Common.{◌≡◌, ◌++◌, drop, option_map}
use Rattle.term_values.specs.Views.{all_of, keyword_of, named}
use Rattle.term_values.proofs.term.Term.keywords.Given as goal

abbrev pub invariant-loop-item : goal.invariant-loop-item
invariant-loop-item l = option_map (λ rest. named l.keywords.items ++ rest) (all_of keyword_of (drop l.item-index l.items)) ≡ all_of keyword_of l.items
