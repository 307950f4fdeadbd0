use Rattle.std.proofs.Common.{◌≡◌, map}
use Rattle.partition_face.specs.Counts.{deaths_of, raised_by, runs_of}
use Rattle.partition_face.proofs.LastingLemmas.{seen}
use Rattle.partition_face.proofs.lasting_maker.LastingMakerMaker.stop.Given as goal

abbrev pub invariant-loop-partition : goal.invariant-loop-partition
invariant-loop-partition g l = record {
  runs : raised_by (runs_of (map seen l.partition-iterator.rest.items)) l.self.stopped.runs ≡
      raised_by (runs_of (map seen l.fn.partitions.items)) l.fn.self.stopped.runs;
  deaths : raised_by (deaths_of (map seen l.partition-iterator.rest.items)) l.self.stopped.deaths ≡
      raised_by (deaths_of (map seen l.fn.partitions.items)) l.fn.self.stopped.deaths;
  asked : l.self.asked ≡ l.fn.self.asked;
}
