use Rattle.std.proofs.Common.{◌≡◌, ◌++◌, drop}
use Rattle.mx_base.specs.Order.{ArePathsInOrder}
use Rattle.mx_base.specs.Path.{folder_text}
use Rattle.build_plan.proofs.SourceLemmas.{behind}
use Rattle.unitc_call.proofs.SourceLemmas.{GoesOn}
use Rattle.unitc_call.proofs.sources.read_sources.Given as goal

abbrev pub invariant-loop-path : goal.invariant-loop-path
invariant-loop-path g l = record {
  read : GoesOn (g.S.Store.known l.fn.store).sources l.dir l.path-items l.path-index l.sources.items;
  order : ArePathsInOrder (behind (folder_text l.dir) l.sources.items ++ drop l.path-index l.path-items);
  same : g.S.Store.known l.store ≡ g.S.Store.known l.fn.store;
}
