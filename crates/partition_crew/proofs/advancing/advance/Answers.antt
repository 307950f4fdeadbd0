use Rattle.std.proofs.Common.{map, refl, ap, arith}
use Rattle.partition_core.specs.declared.event.Event.TheVariants.{Keep, Start, Skip}
use Rattle.partition_core.specs.Story.{Story}
use Rattle.partition_core.proofs.Tidy.{places_all}
use Rattle.partition_crew.specs.Station.{station_by}
use Rattle.partition_crew.specs.Station.Moves.{keeps, skips}
use Rattle.partition_crew.proofs.Starting.{none_runs}
use Rattle.partition_crew.proofs.advancing.advance.Goals as goal

pub make-requires-clause-legal : goal.make-requires-clause-legal
make-requires-clause-legal g c = c.in-Keep.ensures.legal (Keep c.in-Keep.place 1) refl

pub make-requires-in-Skip-clause-legal : goal.make-requires-in-Skip-clause-legal
make-requires-in-Skip-clause-legal g c = c.in-Skip.ensures.legal (Skip c.in-Skip.place c.in-Skip.need 1) refl

pub start-requires-clause-legal : goal.start-requires-clause-legal
start-requires-clause-legal g c κs within = c.in-Start.ensures.legal (Start c.in-Start.place 1) refl

pub unreachable-requires : goal.unreachable-requires
unreachable-requires g c =
    let some = c.in-Later.ensures.later refl in
    none_runs c.args.core.now.opening c.args.core.now.events some.0 c.requires.alone c.requires.idle some.1

pub returns-in-Keep-clause-advances : goal.returns-in-Keep-clause-advances
returns-in-Keep-clause-advances g c =
    keeps c.in-Keep.place (c.in-Keep.ensures.legal (Keep c.in-Keep.place 1) refl)
    (ap (λ (story : Story). station_by story.events (map g.F.Folder.known c.args.folders.now.items)
    (g.P.Partition.counted c.args.partition.now)) c.make.ensures)

pub returns-in-Skip-clause-advances : goal.returns-in-Skip-clause-advances
returns-in-Skip-clause-advances g c =
    skips c.in-Skip.place c.in-Skip.need (c.in-Skip.ensures.legal (Skip c.in-Skip.place c.in-Skip.need 1) refl)
    (ap (λ (story : Story). station_by story.events (map g.F.Folder.known c.args.folders.now.items)
    (g.P.Partition.counted c.args.partition.now)) c.make-in-Skip.ensures)

pub returns-in-Over-clause-advances : goal.returns-in-Over-clause-advances
returns-in-Over-clause-advances g c =
    (refl, λ place below. c.in-Over.ensures.over.0 refl place (omega (arith, below, places_all c.args.core.now.opening c.args.core.now.events)))
