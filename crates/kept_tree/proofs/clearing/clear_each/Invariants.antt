use Rattle.std.proofs.Common.{◌≡◌, take}
use Rattle.tree_store.specs.Slot.{AllHere}
use Rattle.kept_tree.specs.Clearing.{Clears, ClearsPartly, is_of}
use Rattle.kept_tree.proofs.clearing.clear_each.Given as goal

abbrev pub invariant-loop-app : goal.invariant-loop-app
invariant-loop-app g l = record {
  cleared : Clears (is_of l.env (take l.app-index l.apps)) (g.S.Store.known l.fn.store).slot (g.S.Store.known l.store).slot;
  part : ClearsPartly (is_of l.env l.apps) (g.S.Store.known l.fn.store).slot (g.S.Store.known l.store).slot;
  here : AllHere (g.S.Store.known l.store).slot;
  sources : (g.S.Store.known l.store).sources ≡ (g.S.Store.known l.fn.store).sources;
  faults : (g.S.Store.known l.store).faults ≡ (g.S.Store.known l.fn.store).faults;
  returned : (g.S.Store.known l.store).returned ≡ (g.S.Store.known l.fn.store).returned;
}
