use Rattle.std.proofs.Common.{List, [], map, sym, subst}
use Rattle.partition_core.specs.declared.event.Event.{Event}
use Rattle.partition_crew.specs.Station.{Ends, nature_by, station_by}
use Rattle.partition_crew.proofs.building.build_over.Goals as goal

pub returns-clause-ends : goal.returns-clause-ends
returns-clause-ends g c =
    let nature = nature_by (g.P.Meaning.honest × g.F.Folder.tells) g.P.Partition.lasting g.P.Meaning.compile_of in
    let first = station_by [] (map g.F.Folder.known c.args.folders.now.items) (g.P.Partition.counted c.args.partition.now) in
    subst (λ (events : List Event). Ends nature c.args.core.opening first
    (station_by events (map g.F.Folder.known c.go_on-fault.new.folders.items) (g.P.Partition.counted c.go_on-fault.new.partition)) c.go_on-fault.result)
    (sym c.close-fates.ensures.history) c.go_on-fault.ensures.ends
