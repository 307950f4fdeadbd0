use Rattle.std.proofs.Common.{◌≡◌, All, IfSome, length}
use Rattle.kept_tree.specs.Reading.{IsWhole}
use Rattle.kept_tree.proofs.KeptLemmas.{AreKeptSoFar}
use Rattle.kept_tree.proofs.kept.read_kept.Given as goal

abbrev pub invariant-loop-job : goal.invariant-loop-job
invariant-loop-job g l = record {
  each : length l.kept.items ≡ l.job-index;
  so_far : AreKeptSoFar (g.S.Store.known l.fn.store).slot l.plan.env l.jobs l.kept.items;
  whole : All (λ entry. IfSome entry IsWhole) l.kept.items;
  same : g.S.Store.known l.store ≡ g.S.Store.known l.fn.store;
}
