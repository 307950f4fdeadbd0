use Rattle.std.proofs.Common.{◌≡◌, map, take}
use Rattle.unit_gen.specs.Seen.{seen}
use Rattle.unit_gen.proofs.project.numbers_of.Given as goal

abbrev pub invariant-loop-one : goal.invariant-loop-one
invariant-loop-one l = l.numbers.items ≡ map (λ one. one.number) (map seen (take l.one-index l.all))
