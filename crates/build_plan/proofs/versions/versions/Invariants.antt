use Rattle.std.proofs.Common.{take}
use Rattle.std.specs.List.{AllZip}
use Rattle.build_plan.proofs.VersionLemmas.{IsVersionOf}
use Rattle.build_plan.proofs.versions.versions.Given as goal

abbrev pub invariant-loop-folder : goal.invariant-loop-folder
invariant-loop-folder l = AllZip IsVersionOf (take l.folder-index l.found) l.versions
