use Rattle.std.proofs.Common.{◌≡◌, ℕ, ◌+◌, ◌++◌, List, Option, IfSome, drop, sym, ◌∙◌, ap, subst}
use Rattle.mx_base.specs.declared.file.File.{File}
use Rattle.mx_base.specs.Order.{ArePathsInOrder}
use Rattle.mx_base.specs.Path.{folder_text}
use Rattle.tree_store.specs.Files.{paths_below}
use Rattle.tree_store.specs.Known.{Known}
use Rattle.build_plan.specs.Sources.{source_at, sources_of}
use Rattle.build_plan.proofs.ReadLemmas.{all_same}
use Rattle.build_plan.proofs.SourceLemmas.{behind, found_list, order_end, order_step}
use Rattle.unitc_call.proofs.SourceLemmas.{GoesOn, as_found, goes_on, goes_to_end, none_read}
use Rattle.unitc_call.proofs.sources.read_sources.Goals as goal

pub loop-path-init : goal.loop-path-init
loop-path-init g c =
    let dir = c.args.dir.now in
    let paths = c.deref-path-items.result.now in
    record {
      read = subst (GoesOn (g.S.Store.known c.args.store.now).sources dir paths 0) (sym c.new-sources.ensures.items)
          (none_read (g.S.Store.known c.args.store.now).sources dir paths);
      order = subst (λ (fs : List File). ArePathsInOrder (behind (folder_text dir) fs ++ paths)) (sym c.new-sources.ensures.items)
          (subst ArePathsInOrder (sym c.deref-path-items.ensures.value) c.in_ok-paths.ensures.in_order);
      same = all_same c.in_ok-paths.ensures.reads;
    }

pub loop-path-preserved : goal.loop-path-preserved
loop-path-preserved g c =
    let told = (g.S.Store.known c.args.store.now).sources in
    let dir = c.args.dir.now in
    let at = c.loop-path in
    let paths = c.deref-path-items.result.now in
    let i = at.path-index in
    let path = c.path-item.result in
    let source : Option File = c.in_ok-source.source in
    let answered = subst (λ (k : Known). IfSome k.sources (λ files. source ≡ source_at dir files path)) at.invariant.same c.in_ok-source.ensures.source in
    let items : c.push_found.new.sources.items ≡ at.sources.items ++ found_list source =
    c.in_ok-push_found.ensures ∙ ap (λ (fs : List File). at.sources.items ++ fs) (as_found source) in
    record {
      read = subst (GoesOn told dir paths (i + 1)) (sym items) (goes_on told dir at.sources.items source paths i path c.loop-path-test.true c.path-item.is answered at.invariant.read);
      order = subst (λ (fs : List File). ArePathsInOrder (behind (folder_text dir) fs ++ drop (i + 1) paths)) (sym items)
          (order_step (folder_text dir) at.sources.items source paths i path c.loop-path-test.true c.path-item.is c.in_ok-source.ensures.place at.invariant.order);
      same = all_same c.in_ok-source.ensures.reads ∙ at.invariant.same;
    }

pub from_vec-requires : goal.from_vec-requires
from_vec-requires g c =
    order_end (folder_text c.args.dir.now) c.loop-path.sources.items c.deref-path-items.result.now c.loop-path.path-index c.loop-path-test.false
    c.loop-path.invariant.order

pub returns-clause-read : goal.returns-clause-read
returns-clause-read g c =
    let told = (g.S.Store.known c.args.store.now).sources in
    let dir = c.args.dir.now in
    let paths = c.deref-path-items.result.now in
    subst (λ (fs : List File). IfSome told (λ files. fs ≡ sources_of dir files)) (sym c.from_vec.ensures)
    (goes_to_end told dir paths c.loop-path.sources.items c.loop-path.path-index c.loop-path-test.false
    (subst (λ (ps : List (List ℕ)). IfSome told (λ files. ps ≡ paths_below dir files)) (sym c.deref-path-items.ensures.value) c.in_ok-paths.ensures.found)
    c.loop-path.invariant.read)
