use Rattle.std.proofs.Common.{◌≡◌, take, IfSome}
use Rattle.std.specs.List.{All, AllZip}
use Rattle.build_plan.specs.Found.{IsFound, IsFoundAt}
use Rattle.build_plan.specs.Kept.{AreKept}
use Rattle.build_plan.proofs.dependencies.found_for.Given as goal

abbrev pub invariant-loop-winner : goal.invariant-loop-winner
invariant-loop-winner g l = record {
  at : AllZip (IsFoundAt l.fn.rows.rows) (take l.winner-index l.fn.rows.winners) l.found.items;
  found : IfSome (g.S.Store.known l.fn.manifests.store.now).sources (λ files. All (IsFound files) l.found.items);
  kept : AreKept (g.S.Store.known l.fn.manifests.store.now).sources l.manifests.found.now;
  same_reference : l.manifests.store.ghost_name ≡ l.fn.manifests.store.ghost_name;
  same : g.S.Store.known l.manifests.store.now ≡ g.S.Store.known l.fn.manifests.store.now;
}
