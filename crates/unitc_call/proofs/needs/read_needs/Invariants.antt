use Rattle.std.proofs.Common.{◌≡◌, take}
use Rattle.unitc_call.proofs.NeedLemmas.{AreBuilt}
use Rattle.unitc_call.proofs.needs.read_needs.Given as goal

abbrev pub invariant-loop-app : goal.invariant-loop-app
invariant-loop-app g l = record {
  built : AreBuilt (g.S.Store.known l.fn.store).slot l.env (take l.app-index l.apps) l.needs.items;
  same : g.S.Store.known l.store ≡ g.S.Store.known l.fn.store;
}
