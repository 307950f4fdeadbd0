use Rattle.std.proofs.Common.{◌≡◌, map, take}
use Rattle.term_values.specs.declared.term.Term.TheVariants.{Atom}
use Rattle.mix_lock.proofs.written.names_term.Given as goal

abbrev pub invariant-loop-name : goal.invariant-loop-name
invariant-loop-name l = l.terms ≡ map Atom (take l.name-index l.names)
