use Rattle.std.proofs.Common.{◌≡◌, length}
use Rattle.std.specs.List.{All}
use Rattle.partition_face.specs.Counts.{fresh}
use Rattle.partition_face.proofs.LastingLemmas.{seen}
use Rattle.partition_face.proofs.lasting_maker.LastingMakerMaker.start.Given as goal

abbrev pub invariant-loop-made : goal.invariant-loop-made
invariant-loop-made g l = record {
  each : All (λ partition. seen partition ≡ fresh) l.started.items;
  all : length l.started.items ≡ l.made;
}
