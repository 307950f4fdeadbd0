use Rattle.std.proofs.Common.{◌≡◌, ℕ, ◌<◌, length, get_or}
use Rattle.dep_order.proofs.ranks.ranks_of.Given as goal

abbrev pub invariant-loop-rank : goal.invariant-loop-rank
invariant-loop-rank l = record {
  long : length l.ranks.items ≡ length l.graph;
  each : (k : ℕ) → k < l.rank → get_or l.ranks.items (get_or l.order k 0) 0 ≡ k;
}
