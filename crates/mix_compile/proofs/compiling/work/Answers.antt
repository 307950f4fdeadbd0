use Rattle.std.proofs.Common.{◌≡◌, ℕ, List, [], length, map, Result, IfOk, Err, refl, sym, ap, ◌∙◌, subst, rules}
use Rattle.compile_model.specs.declared.job.Plan.{Plan}
use Rattle.honest_tree.specs.KeptOf.{AreKeptOf}
use Rattle.tree_store.specs.Known.{Known}
use Rattle.partition_core.specs.declared.event.Event.{Event}
use Rattle.partition_crew.specs.Build.{by_one}
use Rattle.partition_crew.specs.Station.{nature_by}
use Rattle.mix_answer.specs.declared.stop.Stop.TheVariants.{Memory}
use Rattle.mix_answer.specs.Answer.{reply_in, stopped}
use Rattle.mix_compile.specs.Asked.{asked_of, came_to}
use Rattle.mix_compile.specs.Building.{ComesTo, IsMade}
use Rattle.mix_compile.specs.Compiles.{Works}
use Rattle.mix_compile.specs.Finishing.{Finishes, finish_of}
use Rattle.mix_compile.specs.Site.{passage_of, site_of}
use Rattle.mix_compile.proofs.ComeLemmas.{fates_many}
use Rattle.mix_compile.proofs.KeepLemmas.{keeps_each, keeps_then}
use Rattle.mix_compile.proofs.WorkLemmas.{Before, finish_works, kept_stays, stopped_works, store_ends, unbegun_ends}
use Rattle.mix_compile.proofs.compiling.work.Goals as goal

pub returns-in_err-kept-clause-stopped : goal.returns-in_err-kept-clause-stopped
returns-in_err-kept-clause-stopped g c =
    let nature = nature_by (g.M.P.Meaning.honest × g.S.F.Folder.tells) g.M.P.Partition.lasting g.M.P.Meaning.compile_of in
    let plan : Plan = c.args.plan in
    let s0 : Known = g.S.Store.known c.args.store.now in
    let s1 : Known = g.S.Store.known c.tidy.new.store in
    let m0 = g.M.Maker.known c.args.maker.now in
    let stop = c.in_err-kept.field-0.0 in
    let is : c.from_residual.result ≡ Err stop = search rules in
    rw is (λ build. stopped_works nature (asked_of build c.args.trace) plan stop s0 s1 m0 m0 refl refl c.tidy.ensures.tree
    (store_ends nature (asked_of build c.args.trace) plan stop s0 s1 m0 m0 (came_to (stopped stop) []) c.in_err-kept.ensures.counts refl refl refl))

pub returns-in_err-plan-clause-stopped : goal.returns-in_err-plan-clause-stopped
returns-in_err-plan-clause-stopped g c =
    let nature = nature_by (g.M.P.Meaning.honest × g.S.F.Folder.tells) g.M.P.Partition.lasting g.M.P.Meaning.compile_of in
    let plan : Plan = c.args.plan in
    let s0 : Known = g.S.Store.known c.args.store.now in
    let s1 : Known = g.S.Store.known c.tidy.new.store in
    let m0 = g.M.Maker.known c.args.maker.now in
    let is : c.from_residual-in_err-plan.result ≡ Err Memory = search rules in
    rw is (λ build. stopped_works nature (asked_of build c.args.trace) plan Memory s0 s1 m0 m0 refl refl c.tidy.ensures.tree
    (store_ends nature (asked_of build c.args.trace) plan Memory s0 s1 m0 m0 (came_to (stopped Memory) []) c.in_ok-kept.ensures.counts refl refl refl))

pub build-requires-clause-kept : goal.build-requires-clause-kept
build-requires-clause-kept g c κs within =
    let nature = nature_by (g.M.P.Meaning.honest × g.S.F.Folder.tells) g.M.P.Partition.lasting g.M.P.Meaning.compile_of in
    let plan : Plan = c.args.plan in
    let s0 : Known = g.S.Store.known c.args.store.now in
    let s1 : Known = g.S.Store.known c.tidy.new.store in
    let m0 = g.M.Maker.known c.args.maker.now in
    subst (λ (p : Plan). AreKeptOf s1.slot p c.in_ok-kept.kept.items) (sym c.in_ok-plan.ensures)
    (kept_stays plan s0.slot s1.slot c.in_ok-kept.kept.items c.in_ok-kept.ensures.cleared c.in_ok-kept.ensures.kept.0)

pub returns-in_err-made-clause-stopped : goal.returns-in_err-made-clause-stopped
returns-in_err-made-clause-stopped g c =
    let nature = nature_by (g.M.P.Meaning.honest × g.S.F.Folder.tells) g.M.P.Partition.lasting g.M.P.Meaning.compile_of in
    let plan : Plan = c.args.plan in
    let s0 : Known = g.S.Store.known c.args.store.now in
    let s1 : Known = g.S.Store.known c.tidy.new.store in
    let m0 = g.M.Maker.known c.args.maker.now in
    let s2 : Known = g.S.Store.known c.build.new.store in
    let m1 = g.M.Maker.known c.build.new.maker in
    let stop = c.in_err-made.field-0.0 in
    let unbegun = c.in_err-made.ensures.unbegun in
    let is : c.from_residual-in_err-made.result ≡ Err stop = search rules in
    rw is (λ build. stopped_works nature (asked_of build c.args.trace) plan stop s0 s2 m0 m1 unbegun.runs unbegun.deaths
    (keeps_then plan.env s0.slot s1.slot s2.slot c.tidy.ensures.tree (keeps_each plan.env s1.slot s2.slot unbegun.slots))
    (unbegun_ends nature (asked_of build c.args.trace) plan stop s0 s1 s2 m0 m1 c.in_ok-kept.ensures.counts unbegun))

pub finish-requires-clause-places : goal.finish-requires-clause-places
finish-requires-clause-places g c =
    let nature = nature_by (g.M.P.Meaning.honest × g.S.F.Folder.tells) g.M.P.Partition.lasting g.M.P.Meaning.compile_of in
    let plan : Plan = c.args.plan in
    let s0 : Known = g.S.Store.known c.args.store.now in
    let s1 : Known = g.S.Store.known c.tidy.new.store in
    let m0 = g.M.Maker.known c.args.maker.now in
    let s2 : Known = g.S.Store.known c.build.new.store in
    let m1 = g.M.Maker.known c.build.new.maker in
    let made = c.in_ok-made.made in
    subst (λ (p : Plan). IfOk made.fates (λ fates. length fates.items ≡ length p.jobs)) (sym c.get.ensures)
    (fates_many nature (by_one c.in_ok-plan.plan c.in_ok-kept.kept.items) (passage_of (site_of s1 m0) (site_of s2 m1)) made.history.items made.fates c.in_ok-made.ensures.comes)

pub returns-clause-ended : goal.returns-clause-ended
returns-clause-ended g c =
    let nature = nature_by (g.M.P.Meaning.honest × g.S.F.Folder.tells) g.M.P.Partition.lasting g.M.P.Meaning.compile_of in
    let plan : Plan = c.args.plan in
    let s0 : Known = g.S.Store.known c.args.store.now in
    let s1 : Known = g.S.Store.known c.tidy.new.store in
    let m0 = g.M.Maker.known c.args.maker.now in
    let s2 : Known = g.S.Store.known c.build.new.store in
    let s3 : Known = g.S.Store.known c.finish.new.store in
    let m1 = g.M.Maker.known c.build.new.maker in
    let kept = c.in_ok-kept.kept.items in
    let made = c.in_ok-made.made in
    let history : List Event = made.history.items in
    let way = passage_of (site_of s1 m0) (site_of s2 m1) in
    let before : Before plan kept s0 s1 = record {
      entries = c.in_ok-kept.ensures.kept.0;
      whole = c.in_ok-kept.ensures.kept.1;
      cleared = c.in_ok-kept.ensures.cleared;
      tree = c.tidy.ensures.tree;
      calm = c.in_ok-kept.ensures.counts;
    } in
    let is_made : IsMade nature (by_one plan kept) way history = subst (λ (p : Plan). IsMade nature (by_one p kept) way history) c.in_ok-plan.ensures c.in_ok-made.ensures.made in
    let comes : ComesTo nature (by_one plan kept) way history made.fates = subst (λ (p : Plan). ComesTo nature (by_one p kept) way history made.fates) c.in_ok-plan.ensures
    c.in_ok-made.ensures.comes in
    let finishes : Finishes plan made.fates (finish_of c.args.trace history s2 s3) c.finish.result.answer =
    subst (λ (p : Plan). Finishes p made.fates (finish_of c.args.trace history s2 s3) c.finish.result.answer) (c.get.ensures ∙ c.in_ok-plan.ensures) c.finish.ensures.finished in
    λ build. subst (λ (h : List Event). Works nature (asked_of build c.args.trace) plan (passage_of (site_of s0 m0) (site_of s3 m1)) (came_to (reply_in c.finish.result.answer) h))
    (sym c.finish.ensures.history)
    (finish_works nature (asked_of build c.args.trace) refl plan c.requires.planned kept s0 s1 s2 s3 m0 m1 history before is_made c.build.ensures.keeps.here made.fates
    c.finish.result.answer comes finishes)
