use Rattle.std.proofs.Common.{◌≡◌, drop}
use Rattle.tree_store.specs.declared.key.BuildKey.{BuildKey}
use Rattle.tree_store.specs.Slot.{AllHere}
use Rattle.mix_main.proofs.TreeLemmas.{cleared_by}
use Rattle.mix_main.specs.Tree.{EachLeavesPart, StaysElsewhere}
use Rattle.mix_main.proofs.clear.clear_env.Given as goal

abbrev pub invariant-loop-app : goal.invariant-loop-app
invariant-loop-app g l = record {
  rest : (q : BuildKey) → cleared_by l.env (drop l.app-index l.app-items) q ((g.S.Store.known l.store).slot q) ≡ cleared_by l.env l.app-items q ((g.S.Store.known l.fn.store).slot q);
  part : EachLeavesPart (g.S.Store.known l.fn.store).slot (g.S.Store.known l.store).slot;
  here : AllHere (g.S.Store.known l.store).slot;
  elsewhere : StaysElsewhere l.env (g.S.Store.known l.fn.store).slot (g.S.Store.known l.store).slot;
  sources : (g.S.Store.known l.store).sources ≡ (g.S.Store.known l.fn.store).sources;
  faults : (g.S.Store.known l.store).faults ≡ (g.S.Store.known l.fn.store).faults;
  returned : (g.S.Store.known l.store).returned ≡ (g.S.Store.known l.fn.store).returned;
}
