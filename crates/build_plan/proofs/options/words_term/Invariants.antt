use Rattle.std.proofs.Common.{◌≡◌, ℕ, List, map, take}
use Rattle.term_values.specs.declared.term.Term.TheVariants.{Str}
use Rattle.build_plan.proofs.options.words_term.Given as goal

abbrev pub invariant-loop-word : goal.invariant-loop-word
invariant-loop-word l = l.parts ≡ map (λ (word : List ℕ). Str word) (take l.word-index l.words)
