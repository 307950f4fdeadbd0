use Rattle.std.proofs.Common.{◌≡◌, map, take}
use Rattle.mix_lock.specs.Text.{dep_term}
use Rattle.mix_lock.proofs.written.deps_term.Given as goal

abbrev pub invariant-loop-dep : goal.invariant-loop-dep
invariant-loop-dep l = l.terms ≡ map dep_term (take l.dep-index l.deps)
