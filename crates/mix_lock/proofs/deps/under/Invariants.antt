use Rattle.std.proofs.Common.{◌≡◌, drop}
use Rattle.term_values.specs.Views.{named}
use Rattle.mix_lock.specs.Terms.{under}
use Rattle.mix_lock.proofs.deps.under.Given as goal

abbrev pub invariant-loop-key : goal.invariant-loop-key
invariant-loop-key l = under l.name (named (drop l.key-index l.options)) ≡ under l.name (named l.options)
