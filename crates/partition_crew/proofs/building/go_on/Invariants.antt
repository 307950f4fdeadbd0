use Rattle.std.proofs.Common.{◌≡◌, ◌+◌, ◌-◌, ◌*◌, [], length, map}
use Rattle.partition_crew.specs.Station.{IsStation, nature_by, station_by}
use Rattle.partition_crew.proofs.building.go_on.Given as goal

abbrev pub invariant-rounds : goal.invariant-rounds
invariant-rounds g l = record {
  opening : l.core.opening ≡ l.fn.core.opening;
  station : IsStation (nature_by (g.P.Meaning.honest × g.F.Folder.tells) g.P.Partition.lasting g.P.Meaning.compile_of) l.fn.core.opening
      (station_by [] (map g.F.Folder.known l.fn.folders.items) (g.P.Partition.counted l.fn.partition))
      (station_by l.core.events (map g.F.Folder.known l.folders.items) (g.P.Partition.counted l.partition));
}

abbrev pub decreases-rounds : goal.decreases-rounds
decreases-rounds g l = 2 * (length l.core.opening.plan.jobs + 1) - length l.core.events
