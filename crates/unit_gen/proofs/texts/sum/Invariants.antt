use Rattle.std.proofs.Common.{◌≡◌, flat_map, string_bytes, take}
use Rattle.unit_gen.specs.Texts.{added}
use Rattle.unit_gen.proofs.texts.sum.Given as goal

abbrev pub invariant-loop-need : goal.invariant-loop-need
invariant-loop-need l = string_bytes l.text ≡ flat_map added (take l.need-index l.needs)
