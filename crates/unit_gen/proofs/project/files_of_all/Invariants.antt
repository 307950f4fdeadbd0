use Rattle.std.proofs.Common.{◌≡◌, flat_map, map, take}
use Rattle.unit_gen.specs.Seen.{seen}
use Rattle.unit_gen.specs.Texts.{files_of}
use Rattle.unit_gen.proofs.project.files_of_all.Given as goal

abbrev pub invariant-loop-one : goal.invariant-loop-one
invariant-loop-one l = l.files.items ≡ flat_map files_of (map seen (take l.one-index l.all))
