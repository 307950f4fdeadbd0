use Rattle.std.proofs.Common.{◌≡◌, List, ◌∷◌, [], map, refl, sym, ap, ◌∙◌}
use Rattle.partition_core.specs.State.{Opening}
use Rattle.partition_crew.specs.Build.{by_one}
use Rattle.partition_crew.specs.Station.{nature_by}
use Rattle.partition_face.specs.declared.counts.Counts.{Counts}
use Rattle.mix_compile.proofs.StartLemmas.{first_fresh, has_built, one_set, ran_one}
use Rattle.mix_compile.proofs.building.build_in.Goals as goal

pub returns-in-Ok-clause-built : goal.returns-in-Ok-clause-built
returns-in-Ok-clause-built g c =
    let counted = g.M.P.Partition.counted in
    let nature = nature_by (g.M.P.Meaning.honest × g.F.Folder.tells) g.M.P.Partition.lasting g.M.P.Meaning.compile_of in
    let o = by_one c.args.plan c.args.kept.items in
    let one = c.build_one-one.result in
    let started : List Counts = map counted c.in-Ok.partitions.items in
    let last = counted c.build_one-one.new.partition in
    has_built nature o (counted c.index_mut.result.now) last (map g.F.Folder.known c.args.folders.now.items) (map g.F.Folder.known c.build_one-one.new.folders.items)
    (g.M.Maker.known c.args.maker.now) (g.M.Maker.known c.stop.new.self) one refl c.requires.planned
    (first_fresh counted (g.M.Maker.known c.args.maker.now) (g.M.Maker.known c.start.new.self) c.in-Ok.partitions.items c.index_mut.result.now c.in-Ok.ensures c.index_mut.ensures.value)
    (ran_one (g.M.Maker.known c.args.maker.now) (g.M.Maker.known c.start.new.self) (g.M.Maker.known c.stop.new.self) started _ last c.in-Ok.ensures
    (one_set counted (g.M.Maker.known c.args.maker.now) (g.M.Maker.known c.start.new.self) c.in-Ok.partitions.items c.build_one-one.new.partition c.in-Ok.ensures) c.stop.ensures)
    c.build_one-one.ensures.history (λ honest. c.build_one-one.ensures.faithful honest.0 honest.1) c.build_one-one.ensures.left
    (λ honest. c.build_one-one.ensures.honest honest.0 honest.1) c.build_one-one.ensures.counts c.build_one-one.ensures.ending
