use Rattle.std.proofs.Common.{◌≡◌, ℕ, List, map, inr, Option, Some, IfOk, IsSome, Result, slice_get, sym, ap, ◌∙◌, subst, rules}
use Rattle.compile_model.specs.declared.job.Plan.{Plan}
use Rattle.tree_store.specs.FolderKnown.{FolderKnown}
use Rattle.tree_store.specs.Known.{Known}
use Rattle.partition_core.specs.declared.event.Event.{Event}
use Rattle.partition_crew.specs.declared.one.One.{One}
use Rattle.partition_crew.specs.Build.{by_one}
use Rattle.partition_board.specs.Holds.{AreReady}
use Rattle.partition_crew.specs.Station.{nature_by}
use Rattle.mix_compile.specs.Building.{ComesTo, HasBuilt, IsMade, bench_of}
use Rattle.mix_compile.specs.Lending.{AreTaken, brought}
use Rattle.mix_compile.specs.Site.{passage_of, site_of}
use Rattle.mix_compile.proofs.BuiltLemmas.{built_made, built_out, none_failed, taken_ready}
use Rattle.mix_compile.proofs.ComeLemmas.{comes_to}
use Rattle.mix_compile.proofs.LendLemmas.{map_get}
use Rattle.mix_compile.proofs.MadeLemmas.{made_here}
use Rattle.mix_compile.proofs.building.build_jobs.Goals as goal

pub build_in-built-requires-clause-folders : goal.build_in-built-requires-clause-folders
build_in-built-requires-clause-folders g c κs within =
    let known = g.S.F.Folder.known in
    let nature = nature_by (g.M.P.Meaning.honest × g.S.F.Folder.tells) g.M.P.Partition.lasting g.M.P.Meaning.compile_of in
    let plan : Plan = c.args.plan.now in
    let kept = c.args.kept.items in
    let shared : c.in_ok-shared.shared ≡ plan = search rules in
    let s0 : Known = g.S.Store.known c.args.store.now in
    let s1 : Known = g.S.Store.known c.take_folders.new.store in
    let first = c.in_ok-folders.folders.items in
    let taken : AreTaken plan s0.slot s1.slot (map known first) = subst (λ (p : Plan). AreTaken p s0.slot s1.slot (map known first)) c.get.ensures c.in_ok-folders.ensures.taken in
    subst (λ (p : Plan). AreReady (by_one p kept) (map known first)) (sym shared) (taken_ready plan c.requires.planned kept s0.slot s1.slot (map known first) c.requires.kept taken)

pub give_back-requires : goal.give_back-requires
give_back-requires g c =
    let known = g.S.F.Folder.known in
    let nature = nature_by (g.M.P.Meaning.honest × g.S.F.Folder.tells) g.M.P.Partition.lasting g.M.P.Meaning.compile_of in
    let plan : Plan = c.args.plan.now in
    let kept = c.args.kept.items in
    let shared : c.in_ok-shared.shared ≡ plan = search rules in
    let s0 : Known = g.S.Store.known c.args.store.now in
    let s1 : Known = g.S.Store.known c.take_folders.new.store in
    let first = c.in_ok-folders.folders.items in
    let taken : AreTaken plan s0.slot s1.slot (map known first) = subst (λ (p : Plan). AreTaken p s0.slot s1.slot (map known first)) c.get.ensures c.in_ok-folders.ensures.taken in
    let m0 = g.M.Maker.known c.args.maker.now in
    let m1 = g.M.Maker.known c.build_in-built.new.maker in
    let now = c.build_in-built.new.folders.items in
    built_out known nature plan c.requires.planned kept s0.slot s1.slot first now m0 m1 taken c.build_in-built.result
    (subst (λ (p : Plan). IfOk c.build_in-built.result (λ one. HasBuilt nature (by_one p kept) (bench_of (map known first) m0) (bench_of (map known now) m1) one)) shared
    c.build_in-built.ensures.built) c.build_in-built.ensures.folders

pub returns-in-Ok-clause-made : goal.returns-in-Ok-clause-made
returns-in-Ok-clause-made g c =
    let known = g.S.F.Folder.known in
    let nature = nature_by (g.M.P.Meaning.honest × g.S.F.Folder.tells) g.M.P.Partition.lasting g.M.P.Meaning.compile_of in
    let plan : Plan = c.args.plan.now in
    let kept = c.args.kept.items in
    let shared : c.in_ok-shared.shared ≡ plan = search rules in
    let s0 : Known = g.S.Store.known c.args.store.now in
    let s1 : Known = g.S.Store.known c.take_folders.new.store in
    let first = c.in_ok-folders.folders.items in
    let taken : AreTaken plan s0.slot s1.slot (map known first) = subst (λ (p : Plan). AreTaken p s0.slot s1.slot (map known first)) c.get.ensures c.in_ok-folders.ensures.taken in
    let s2 : Known = g.S.Store.known c.give_back.new.store in
    let m0 = g.M.Maker.known c.args.maker.now in
    let m1 = g.M.Maker.known c.build_in-built.new.maker in
    let now = c.build_in-built.new.folders.items in
    let one : One = c.in-Ok.one in
    let built : HasBuilt nature (by_one plan kept) (bench_of (map known first) m0) (bench_of (map known now) m1) one =
    subst (λ (p : Plan). HasBuilt nature (by_one p kept) (bench_of (map known first) m0) (bench_of (map known now) m1) one) shared c.in-Ok.ensures.built in
    subst (IsMade nature (by_one plan kept) (passage_of (site_of s0 m0) (site_of s2 m1))) (sym c.of.ensures.history)
    (built_made nature plan c.requires.planned kept s0 s1 s2 m0 m1 (map known first) (map known now) one taken built c.give_back.ensures.back c.requires.some
    (λ honest place folder is. let f = map_get known first place folder is in subst (λ (k : FolderKnown). IsSome k.held) f.2 (g.met.S.F.Folder.told honest.1 f.0)))

pub returns-in-Ok-clause-comes : goal.returns-in-Ok-clause-comes
returns-in-Ok-clause-comes g c =
    let known = g.S.F.Folder.known in
    let nature = nature_by (g.M.P.Meaning.honest × g.S.F.Folder.tells) g.M.P.Partition.lasting g.M.P.Meaning.compile_of in
    let plan : Plan = c.args.plan.now in
    let kept = c.args.kept.items in
    let shared : c.in_ok-shared.shared ≡ plan = search rules in
    let s0 : Known = g.S.Store.known c.args.store.now in
    let s1 : Known = g.S.Store.known c.take_folders.new.store in
    let first = c.in_ok-folders.folders.items in
    let taken : AreTaken plan s0.slot s1.slot (map known first) = subst (λ (p : Plan). AreTaken p s0.slot s1.slot (map known first)) c.get.ensures c.in_ok-folders.ensures.taken in
    let s2 : Known = g.S.Store.known c.give_back.new.store in
    let m0 = g.M.Maker.known c.args.maker.now in
    let m1 = g.M.Maker.known c.build_in-built.new.maker in
    let now = c.build_in-built.new.folders.items in
    let one : One = c.in-Ok.one in
    let built : HasBuilt nature (by_one plan kept) (bench_of (map known first) m0) (bench_of (map known now) m1) one =
    subst (λ (p : Plan). HasBuilt nature (by_one p kept) (bench_of (map known first) m0) (bench_of (map known now) m1) one) shared c.in-Ok.ensures.built in
    subst (λ (h : List Event). ComesTo nature (by_one plan kept) (passage_of (site_of s0 m0) (site_of s2 m1)) h c.of.result.fates) (sym c.of.ensures.history)
    (comes_to nature (by_one plan kept) s0 s1 s2 (bench_of (map known first) m0) (bench_of (map known now) m1) one c.in_ok-died.died.items built c.in_ok-died.ensures
    (ap (λ (k : Known). k.faults) c.give_back.ensures.rest ∙ c.in_ok-folders.ensures.counts.0) c.in_ok-folders.ensures.counts.1 c.give_back.ensures.rose
    c.give_back.ensures.kept c.of.result.fates c.of.ensures.fates)

pub returns-in-Ok-clause-keeps : goal.returns-in-Ok-clause-keeps
returns-in-Ok-clause-keeps g c =
    let known = g.S.F.Folder.known in
    let nature = nature_by (g.M.P.Meaning.honest × g.S.F.Folder.tells) g.M.P.Partition.lasting g.M.P.Meaning.compile_of in
    let plan : Plan = c.args.plan.now in
    let kept = c.args.kept.items in
    let shared : c.in_ok-shared.shared ≡ plan = search rules in
    let s0 : Known = g.S.Store.known c.args.store.now in
    let s1 : Known = g.S.Store.known c.take_folders.new.store in
    let first = c.in_ok-folders.folders.items in
    let taken : AreTaken plan s0.slot s1.slot (map known first) = subst (λ (p : Plan). AreTaken p s0.slot s1.slot (map known first)) c.get.ensures c.in_ok-folders.ensures.taken in
    let s2 : Known = g.S.Store.known c.give_back.new.store in
    let m0 = g.M.Maker.known c.args.maker.now in
    let m1 = g.M.Maker.known c.build_in-built.new.maker in
    let now = c.build_in-built.new.folders.items in
    let one : One = c.in-Ok.one in
    let built : HasBuilt nature (by_one plan kept) (bench_of (map known first) m0) (bench_of (map known now) m1) one =
    subst (λ (p : Plan). HasBuilt nature (by_one p kept) (bench_of (map known first) m0) (bench_of (map known now) m1) one) shared c.in-Ok.ensures.built in
    record {
      sources = ap (λ (k : Known). k.sources) c.give_back.ensures.rest ∙ c.take_folders.ensures.sources;
      here = made_here plan c.requires.planned (map known first) (map known now) s0.slot s1.slot s2.slot taken built.left.keys c.give_back.ensures.back c.requires.here;
    }

pub returns-in-Err-clause-unbegun : goal.returns-in-Err-clause-unbegun
returns-in-Err-clause-unbegun g c =
    let known = g.S.F.Folder.known in
    let nature = nature_by (g.M.P.Meaning.honest × g.S.F.Folder.tells) g.M.P.Partition.lasting g.M.P.Meaning.compile_of in
    let plan : Plan = c.args.plan.now in
    let kept = c.args.kept.items in
    let shared : c.in_ok-shared.shared ≡ plan = search rules in
    let s0 : Known = g.S.Store.known c.args.store.now in
    let s1 : Known = g.S.Store.known c.take_folders.new.store in
    let first = c.in_ok-folders.folders.items in
    let taken : AreTaken plan s0.slot s1.slot (map known first) = subst (λ (p : Plan). AreTaken p s0.slot s1.slot (map known first)) c.get.ensures c.in_ok-folders.ensures.taken in
    let s2 : Known = g.S.Store.known c.give_back.new.store in
    let m0 = g.M.Maker.known c.args.maker.now in
    let m1 = g.M.Maker.known c.build_in-built.new.maker in
    let now = c.build_in-built.new.folders.items in
    record {
      slots = λ q. c.give_back.ensures.back q ∙ ap (λ (fs : List g.row.S-F.Denot). brought (map known fs) s1.slot q) c.in-Err.ensures.folders ∙ taken.whole q;
      runs = c.in-Err.ensures.idle.0;
      deaths = c.in-Err.ensures.idle.1;
      cause = inr (
        (
          ap (λ (k : Known). k.faults) c.give_back.ensures.rest ∙ c.in_ok-folders.ensures.counts.0,
          c.give_back.ensures.kept (none_failed known nature plan c.requires.planned kept s0.slot s1.slot first now m0 m1 taken c.in-Err.ensures.folders)
              ∙ c.in_ok-folders.ensures.counts.1,
        ),
        c.in-Err.ensures.stopped,
      );
    }
