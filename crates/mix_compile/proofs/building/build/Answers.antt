use Rattle.std.proofs.Common.{ap, ◌∙◌}
use Rattle.compile_model.specs.declared.job.Plan.{Plan}
use Rattle.partition_crew.specs.Station.{nature_by}
use Rattle.mix_compile.proofs.BuiltLemmas.{none_by, none_made}
use Rattle.mix_compile.proofs.building.build.Goals as goal

pub returns-then-is_empty-clause-made : goal.returns-then-is_empty-clause-made
returns-then-is_empty-clause-made g c =
    let nature = nature_by (g.M.P.Meaning.honest × g.S.F.Folder.tells) g.M.P.Partition.lasting g.M.P.Meaning.compile_of in
    none_made nature c.args.plan.now (none_by c.args.plan.now.jobs c.as_slice.result.now c.is_empty.result (c.as_slice.ensures ∙ ap (λ (p : Plan). p.jobs) c.get.ensures)
    c.is_empty.ensures c.if-is_empty.true) c.args.kept.items (g.S.Store.known c.args.store.now) (g.M.Maker.known c.args.maker.now) _ c.of_nothing.ensures.history
