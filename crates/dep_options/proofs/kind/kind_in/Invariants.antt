use Rattle.std.proofs.Common.{◌≡◌, map, drop}
use Rattle.dep_options.specs.Options.{first_of}
use Rattle.dep_options.proofs.kind.kind_in.Given as goal

abbrev pub invariant-loop-option : goal.invariant-loop-option
invariant-loop-option l = first_of l.name (map (λ o. (o.0.now, o.1)) (drop l.option-index l.options)) ≡ first_of l.name (map (λ o. (o.0.now, o.1)) l.options)
