use Rattle.std.proofs.Common.{◌≡◌, ◌++◌, drop}
use Rattle.std.specs.List.{All}
use Rattle.build_manifest.specs.Description.{need_digests}
use Rattle.build_manifest.proofs.MarkOfLemmas.{NeedSound}
use Rattle.build_manifest.proofs.description.need_digests.Given as goal

abbrev pub invariant-loop-at : goal.invariant-loop-at
invariant-loop-at l = record {
  made : l.made ++ need_digests (drop l.at l.input.job.now.need_apps) (drop l.at l.input.needs.now) ≡ need_digests l.input.job.now.need_apps l.input.needs.now;
  sound : All NeedSound l.made;
}
