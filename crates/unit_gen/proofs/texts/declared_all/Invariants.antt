use Rattle.std.proofs.Common.{◌≡◌, map, string_bytes, take}
use Rattle.unit_gen.specs.Texts.{declared}
use Rattle.unit_gen.proofs.texts.declared_all.Given as goal

abbrev pub invariant-loop-number : goal.invariant-loop-number
invariant-loop-number l = map (λ one. string_bytes one) l.all.items ≡ map (declared l.folder) (take l.number-index l.numbers)
