use Rattle.std.proofs.Common.{◌≡◌, map, take}
use Rattle.tree_store.specs.Slot.{AllHere}
use Rattle.mix_compile.specs.Settling.{KeepsTree, Rewrites}
use Rattle.mix_compile.proofs.settling.rewrite_each.Given as goal

abbrev pub invariant-loop-app : goal.invariant-loop-app
invariant-loop-app g l = record {
  rewritten : Rewrites l.env (take l.app-index (map (λ app. app.now) l.apps)) (g.S.Store.known l.fn.store).slot (g.S.Store.known l.store).slot;
  tree : KeepsTree l.env (g.S.Store.known l.fn.store).slot (g.S.Store.known l.store).slot;
  here : AllHere (g.S.Store.known l.store).slot;
  sources : (g.S.Store.known l.store).sources ≡ (g.S.Store.known l.fn.store).sources;
  faults : (g.S.Store.known l.store).faults ≡ (g.S.Store.known l.fn.store).faults;
  returned : (g.S.Store.known l.store).returned ≡ (g.S.Store.known l.fn.store).returned;
}
