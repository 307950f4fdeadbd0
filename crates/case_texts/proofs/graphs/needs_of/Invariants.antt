use Rattle.std.proofs.Common.{◌<◌, All}
use Rattle.case_texts.proofs.graphs.needs_of.Given as goal

abbrev pub invariant-loop-word : goal.invariant-loop-word
invariant-loop-word l = All (λ need. need < l.count) l.needs
