use Rattle.std.proofs.Common.{◌≡◌, ℕ, length, take}
use Rattle.dep_order.specs.Graph.{needs_of}
use Rattle.dep_order.specs.Pending.{times}
use Rattle.dep_order.proofs.dependents.dependents_of.Given as goal

abbrev pub invariant-loop-place : goal.invariant-loop-place
invariant-loop-place l = record {
  long : length l.dependents.items ≡ length l.graph;
  each : (need other : ℕ) → times other (needs_of l.dependents.items need) ≡ times need (needs_of (take l.place l.graph) other);
}
