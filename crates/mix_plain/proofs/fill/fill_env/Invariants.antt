use Rattle.std.proofs.Common.{◌≡◌}
use Rattle.tree_store.specs.Slot.{AllHere}
use Rattle.kept_tree.specs.Tree.{IsTree}
use Rattle.mix_plain.specs.Filling.{FillsPartly, first_of}
use Rattle.mix_plain.proofs.fill.fill_env.Given as goal

abbrev pub invariant-loop-place : goal.invariant-loop-place
invariant-loop-place g l = record {
  tree : IsTree (first_of l.place l.plan) l.fates (g.S.Store.known l.store).slot;
  part : FillsPartly l.plan l.fates (g.S.Store.known l.fn.store).slot (g.S.Store.known l.store).slot;
  here : AllHere (g.S.Store.known l.store).slot;
  sources : (g.S.Store.known l.store).sources ≡ (g.S.Store.known l.fn.store).sources;
  faults : (g.S.Store.known l.store).faults ≡ (g.S.Store.known l.fn.store).faults;
  returned : (g.S.Store.known l.store).returned ≡ (g.S.Store.known l.fn.store).returned;
}
