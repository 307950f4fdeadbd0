use Rattle.std.proofs.Common.{◌≡◌, ◌++◌, map, reverse, length}
use Rattle.term_print.specs.Grammar.{word_term}
use Rattle.elixir_terms.proofs.enclosed.word_list.Given as goal

abbrev pub invariant-loop-word : goal.invariant-loop-word
invariant-loop-word l = map (word_term l.kind) l.words ++ reverse l.terms.items ≡ map (word_term l.kind) l.fn.words

abbrev pub decreases-loop-word : goal.decreases-loop-word
decreases-loop-word l = length l.words
