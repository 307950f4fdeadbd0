use Rattle.std.proofs.Common.{◌≡◌, List, [], map, Option, sym, ◌∙◌, ap, subst}
use Rattle.compile_model.specs.declared.outcome.Fate.{Fate}
use Rattle.compile_model.specs.Seq.{seq}
use Rattle.partition_core.specs.State.{at}
use Rattle.partition_core.specs.Histories.{Agrees, replay}
use Rattle.partition_core.specs.Story.{Story}
use Rattle.partition_crew.specs.declared.one.One.{One}
use Rattle.partition_board.specs.Holds.{AreLeft}
use Rattle.partition_crew.specs.Build.{by_one, inputs_of}
use Rattle.partition_crew.specs.Station.{Ends, nature_by, station_by}
use Rattle.partition_crew.proofs.Beginning.{stay_same}
use Rattle.partition_crew.proofs.Ending.{ends_agree, ends_counts, ends_ending, ends_faithful, ends_left, ends_legal, ends_runs, ends_stay}
use Rattle.partition_crew.proofs.Unbegun.{unbegun_agrees, unbegun_counts, unbegun_faithful, unbegun_history, unbegun_left}
use Rattle.partition_crew.proofs.building.build_one.Goals as goal

pub returns-in-Ok-clause-history : goal.returns-in-Ok-clause-history
returns-in-Ok-clause-history g c =
    let nature = nature_by (g.P.Meaning.honest × g.F.Folder.tells) g.P.Partition.lasting g.P.Meaning.compile_of in
    let o = by_one c.args.plan c.args.kept.items in
    let first = station_by [] (map g.F.Folder.known c.args.folders.now.items) (g.P.Partition.counted c.args.partition.now) in
    let one : One = c.build_over.result in
    let now = station_by one.history.items (map g.F.Folder.known c.build_over.new.folders.items) (g.P.Partition.counted c.build_over.new.partition) in
    let ends = subst (λ (story : Story). Ends nature story.opening first now one.fault) c.in-Ok.ensures c.build_over.ensures.ends in
    let fates : one.fates.items ≡ (replay o one.history.items).fates = c.build_over.ensures.fates
    ∙ ap (λ (story : Story). (replay story.opening one.history.items).fates) c.in-Ok.ensures in
    record {
      legal = ends_legal nature o c.requires.planned first c.requires.folders c.requires.young now one.fault ends;
      fates = λ place. ap
          (λ (all : List (Option Fate)). at all place) fates;
    }

pub returns-in-Ok-clause-faithful : goal.returns-in-Ok-clause-faithful
returns-in-Ok-clause-faithful g c =
    let nature = nature_by (g.P.Meaning.honest × g.F.Folder.tells) g.P.Partition.lasting g.P.Meaning.compile_of in
    let o = by_one c.args.plan c.args.kept.items in
    let first = station_by [] (map g.F.Folder.known c.args.folders.now.items) (g.P.Partition.counted c.args.partition.now) in
    let one : One = c.build_over.result in
    let now = station_by one.history.items (map g.F.Folder.known c.build_over.new.folders.items) (g.P.Partition.counted c.build_over.new.partition) in
    let ends = subst (λ (story : Story). Ends nature story.opening first now one.fault) c.in-Ok.ensures c.build_over.ensures.ends in
    λ honest tells. ends_faithful nature o c.requires.planned first c.requires.folders c.requires.young now one.fault ends (honest, tells)

pub returns-in-Ok-clause-each : goal.returns-in-Ok-clause-each
returns-in-Ok-clause-each g c =
    let nature = nature_by (g.P.Meaning.honest × g.F.Folder.tells) g.P.Partition.lasting g.P.Meaning.compile_of in
    let o = by_one c.args.plan c.args.kept.items in
    let first = station_by [] (map g.F.Folder.known c.args.folders.now.items) (g.P.Partition.counted c.args.partition.now) in
    let one : One = c.build_over.result in
    let now = station_by one.history.items (map g.F.Folder.known c.build_over.new.folders.items) (g.P.Partition.counted c.build_over.new.partition) in
    let ends = subst (λ (story : Story). Ends nature story.opening first now one.fault) c.in-Ok.ensures c.build_over.ensures.ends in
    let fates : one.fates.items ≡ (replay o one.history.items).fates = c.build_over.ensures.fates
    ∙ ap (λ (story : Story). (replay story.opening one.history.items).fates) c.in-Ok.ensures in
    λ honest tells sound. subst (λ (all : List (Option Fate)). Agrees all (seq nature.compile o.plan.jobs)) (sym fates)
    (ends_agree nature o c.requires.planned first c.requires.folders c.requires.young now one.fault ends (honest, tells) sound)

pub returns-in-Ok-clause-left : goal.returns-in-Ok-clause-left
returns-in-Ok-clause-left g c =
    let nature = nature_by (g.P.Meaning.honest × g.F.Folder.tells) g.P.Partition.lasting g.P.Meaning.compile_of in
    let o = by_one c.args.plan c.args.kept.items in
    let first = station_by [] (map g.F.Folder.known c.args.folders.now.items) (g.P.Partition.counted c.args.partition.now) in
    let one : One = c.build_over.result in
    let now = station_by one.history.items (map g.F.Folder.known c.build_over.new.folders.items) (g.P.Partition.counted c.build_over.new.partition) in
    let ends = subst (λ (story : Story). Ends nature story.opening first now one.fault) c.in-Ok.ensures c.build_over.ensures.ends in
    let fates : one.fates.items ≡ (replay o one.history.items).fates = c.build_over.ensures.fates
    ∙ ap (λ (story : Story). (replay story.opening one.history.items).fates) c.in-Ok.ensures in
    subst (λ (all : List (Option Fate)). AreLeft o all first.folders now.folders) (sym fates)
    (ends_left nature o c.requires.planned first c.requires.folders c.requires.young now one.fault ends)

pub returns-in-Ok-clause-honest : goal.returns-in-Ok-clause-honest
returns-in-Ok-clause-honest g c =
    let nature = nature_by (g.P.Meaning.honest × g.F.Folder.tells) g.P.Partition.lasting g.P.Meaning.compile_of in
    let o = by_one c.args.plan c.args.kept.items in
    let first = station_by [] (map g.F.Folder.known c.args.folders.now.items) (g.P.Partition.counted c.args.partition.now) in
    let one : One = c.build_over.result in
    let now = station_by one.history.items (map g.F.Folder.known c.build_over.new.folders.items) (g.P.Partition.counted c.build_over.new.partition) in
    let ends = subst (λ (story : Story). Ends nature story.opening first now one.fault) c.in-Ok.ensures c.build_over.ensures.ends in
    λ honest tells sound. ends_stay nature o c.requires.planned first c.requires.folders c.requires.young now one.fault ends (honest, tells) sound

pub returns-in-Ok-clause-counts : goal.returns-in-Ok-clause-counts
returns-in-Ok-clause-counts g c =
    let nature = nature_by (g.P.Meaning.honest × g.F.Folder.tells) g.P.Partition.lasting g.P.Meaning.compile_of in
    let o = by_one c.args.plan c.args.kept.items in
    let first = station_by [] (map g.F.Folder.known c.args.folders.now.items) (g.P.Partition.counted c.args.partition.now) in
    let one : One = c.build_over.result in
    let now = station_by one.history.items (map g.F.Folder.known c.build_over.new.folders.items) (g.P.Partition.counted c.build_over.new.partition) in
    let ends = subst (λ (story : Story). Ends nature story.opening first now one.fault) c.in-Ok.ensures c.build_over.ensures.ends in
    ends_counts nature o c.requires.planned first c.requires.folders c.requires.young now one.fault ends

pub returns-in-Ok-clause-ending : goal.returns-in-Ok-clause-ending
returns-in-Ok-clause-ending g c =
    let nature = nature_by (g.P.Meaning.honest × g.F.Folder.tells) g.P.Partition.lasting g.P.Meaning.compile_of in
    let o = by_one c.args.plan c.args.kept.items in
    let first = station_by [] (map g.F.Folder.known c.args.folders.now.items) (g.P.Partition.counted c.args.partition.now) in
    let one : One = c.build_over.result in
    let now = station_by one.history.items (map g.F.Folder.known c.build_over.new.folders.items) (g.P.Partition.counted c.build_over.new.partition) in
    let ends = subst (λ (story : Story). Ends nature story.opening first now one.fault) c.in-Ok.ensures c.build_over.ensures.ends in
    let fates : one.fates.items ≡ (replay o one.history.items).fates = c.build_over.ensures.fates
    ∙ ap (λ (story : Story). (replay story.opening one.history.items).fates) c.in-Ok.ensures in
    ends_ending nature o c.requires.planned first c.requires.folders c.requires.young one now fates ends

pub returns-in-Ok-clause-runs : goal.returns-in-Ok-clause-runs
returns-in-Ok-clause-runs g c =
    let nature = nature_by (g.P.Meaning.honest × g.F.Folder.tells) g.P.Partition.lasting g.P.Meaning.compile_of in
    let o = by_one c.args.plan c.args.kept.items in
    let first = station_by [] (map g.F.Folder.known c.args.folders.now.items) (g.P.Partition.counted c.args.partition.now) in
    let one : One = c.build_over.result in
    let now = station_by one.history.items (map g.F.Folder.known c.build_over.new.folders.items) (g.P.Partition.counted c.build_over.new.partition) in
    let ends = subst (λ (story : Story). Ends nature story.opening first now one.fault) c.in-Ok.ensures c.build_over.ensures.ends in
    λ honest tells sound none. ends_runs nature o c.requires.planned first c.requires.folders c.requires.young now one.fault none ends (honest, tells) sound

pub returns-in-Err-clause-history : goal.returns-in-Err-clause-history
returns-in-Err-clause-history g c = unbegun_history (by_one c.args.plan c.args.kept.items) c.unbegun.result c.unbegun.ensures.fates c.unbegun.ensures.history

pub returns-in-Err-clause-faithful : goal.returns-in-Err-clause-faithful
returns-in-Err-clause-faithful g c = λ honest tells. unbegun_faithful g.P.Meaning.compile_of
    (by_one c.args.plan c.args.kept.items) c.unbegun.result.history.items c.unbegun.ensures.history

pub returns-in-Err-clause-each : goal.returns-in-Err-clause-each
returns-in-Err-clause-each g c = λ honest tells sound. unbegun_agrees c.unbegun.result.fates.items
    (seq g.P.Meaning.compile_of c.args.plan.jobs) c.unbegun.ensures.fates

pub returns-in-Err-clause-left : goal.returns-in-Err-clause-left
returns-in-Err-clause-left g c = unbegun_left (by_one c.args.plan c.args.kept.items) c.unbegun.result.fates.items
    (map g.F.Folder.known c.args.folders.now.items) c.unbegun.ensures.fates

pub returns-in-Err-clause-honest : goal.returns-in-Err-clause-honest
returns-in-Err-clause-honest g c = λ honest tells sound. stay_same g.P.Meaning.compile_of (inputs_of g.P.Meaning.compile_of c.args.plan.jobs)
    (map g.F.Folder.known c.args.folders.now.items)

pub returns-in-Err-clause-counts : goal.returns-in-Err-clause-counts
returns-in-Err-clause-counts g c = unbegun_counts g.P.Partition.lasting c.unbegun.result.history.items
    (g.P.Partition.counted c.args.partition.now) c.unbegun.ensures.history
