use Rattle.std.proofs.Common.{◌≡◌, ◌∙◌, Bool, List, [], length, map, Ok, refl, sym, ap, subst, arith}
use Rattle.partition_core.specs.declared.event.Event.{Event}
use Rattle.partition_core.specs.State.{Opening}
use Rattle.partition_crew.specs.Station.{Cuts, IsStation, Moves, Advances, nature_by, station_by}
use Rattle.partition_crew.proofs.Beginning.{can_run, first_station, moves_on}
use Rattle.partition_crew.proofs.building.go_on.Goals as goal

pub rounds-init : goal.rounds-init
rounds-init g c =
    let nature = nature_by (g.P.Meaning.honest × g.F.Folder.tells) g.P.Partition.lasting g.P.Meaning.compile_of in
    let o = c.args.core.now.opening in
    let folders = map g.F.Folder.known c.args.folders.now.items in
    let counts = g.P.Partition.counted c.args.partition.now in
    record {
      opening = refl;
      station = subst (λ (events : List Event). IsStation nature o (station_by [] folders counts) (station_by events folders counts)) (sym c.requires.new)
          (first_station nature o folders counts c.requires.alone);
    }

pub advance-requires-clause-able : goal.advance-requires-clause-able
advance-requires-clause-able g c κs within =
    let nature = nature_by (g.P.Meaning.honest × g.F.Folder.tells) g.P.Partition.lasting g.P.Meaning.compile_of in
    let first = station_by [] (map g.F.Folder.known c.args.folders.now.items) (g.P.Partition.counted c.args.partition.now) in
    let now = station_by c.rounds.core.events (map g.F.Folder.known c.rounds.folders.items) (g.P.Partition.counted c.rounds.partition) in
    can_run nature c.args.core.now.opening first now c.requires.planned c.requires.alone c.requires.young c.rounds.invariant.station

pub rounds-smaller : goal.rounds-smaller
rounds-smaller g c =
    let nature = nature_by (g.P.Meaning.honest × g.F.Folder.tells) g.P.Partition.lasting g.P.Meaning.compile_of in
    let o = c.args.core.now.opening in
    let first = station_by [] (map g.F.Folder.known c.args.folders.now.items) (g.P.Partition.counted c.args.partition.now) in
    let old = station_by c.rounds.core.events (map g.F.Folder.known c.rounds.folders.items) (g.P.Partition.counted c.rounds.partition) in
    let new = station_by c.advance.new.core.events (map g.F.Folder.known c.advance.new.folders.items) (g.P.Partition.counted c.advance.new.partition) in
    let moves = subst (λ (p : Opening). Moves nature p old new) c.rounds.invariant.opening
    (subst (λ (b : Bool). Advances nature c.rounds.core.opening old new (Ok b)) c.if-not-more.false c.in-Ok.ensures.advances) in
    let on = moves_on nature o first old new c.requires.planned c.requires.ready c.requires.alone c.rounds.invariant.station moves in
    let same : length c.advance.new.core.opening.plan.jobs ≡ length c.rounds.core.opening.plan.jobs = ap
    (λ (p : Opening). length p.plan.jobs) c.advance.ensures.opening in
    let here : length c.rounds.core.opening.plan.jobs ≡ length o.plan.jobs = ap (λ (p : Opening). length p.plan.jobs) c.rounds.invariant.opening in
    omega (arith, on.1, on.2, same, here)

pub rounds-preserved : goal.rounds-preserved
rounds-preserved g c =
    let nature = nature_by (g.P.Meaning.honest × g.F.Folder.tells) g.P.Partition.lasting g.P.Meaning.compile_of in
    let o = c.args.core.now.opening in
    let first = station_by [] (map g.F.Folder.known c.args.folders.now.items) (g.P.Partition.counted c.args.partition.now) in
    let old = station_by c.rounds.core.events (map g.F.Folder.known c.rounds.folders.items) (g.P.Partition.counted c.rounds.partition) in
    let new = station_by c.advance.new.core.events (map g.F.Folder.known c.advance.new.folders.items) (g.P.Partition.counted c.advance.new.partition) in
    let moves = subst (λ (p : Opening). Moves nature p old new) c.rounds.invariant.opening
    (subst (λ (b : Bool). Advances nature c.rounds.core.opening old new (Ok b)) c.if-not-more.false c.in-Ok.ensures.advances) in
    record {
      opening = c.advance.ensures.opening ∙ c.rounds.invariant.opening;
      station = (moves_on nature o first old new c.requires.planned c.requires.ready c.requires.alone c.rounds.invariant.station moves).0;
    }

pub returns-in-Err-clause-ends : goal.returns-in-Err-clause-ends
returns-in-Err-clause-ends g c =
    let nature = nature_by (g.P.Meaning.honest × g.F.Folder.tells) g.P.Partition.lasting g.P.Meaning.compile_of in
    let old = station_by c.rounds.core.events (map g.F.Folder.known c.rounds.folders.items) (g.P.Partition.counted c.rounds.partition) in
    let new = station_by c.advance.new.core.events (map g.F.Folder.known c.advance.new.folders.items) (g.P.Partition.counted c.advance.new.partition) in
    (old, c.rounds.invariant.station, subst (λ (p : Opening). Cuts nature p old new c.in-Err.fault) c.rounds.invariant.opening c.in-Err.ensures.advances)
