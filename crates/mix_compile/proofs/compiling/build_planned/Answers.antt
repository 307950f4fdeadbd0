use Rattle.std.proofs.Common.{List, sym, subst}
use Rattle.partition_core.specs.declared.event.Event.{Event}
use Rattle.partition_crew.specs.Station.{nature_by}
use Rattle.mix_answer.specs.Answer.{stopped}
use Rattle.mix_compile.specs.Asked.{asked_of, came_to}
use Rattle.mix_compile.specs.Compiles.{Works}
use Rattle.mix_compile.specs.Site.{passage_of, site_of}
use Rattle.mix_compile.proofs.compiling.build_planned.Goals as goal

pub returns-in-Err-clause-works : goal.returns-in-Err-clause-works
returns-in-Err-clause-works g c =
    let nature = nature_by (g.M.P.Meaning.honest × g.S.F.Folder.tells) g.M.P.Partition.lasting g.M.P.Meaning.compile_of in
    λ build. subst (λ (h : List Event). Works nature (asked_of build c.args.trace) c.args.plan
    (passage_of (site_of (g.S.Store.known c.args.store.now) (g.M.Maker.known c.args.maker.now))
    (site_of (g.S.Store.known c.work.new.store) (g.M.Maker.known c.work.new.maker))) (came_to (stopped c.in-Err.stop) h)) (sym c.new.ensures.items) (c.in-Err.ensures.stopped build)
