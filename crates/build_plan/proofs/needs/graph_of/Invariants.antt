use Rattle.std.proofs.Common.{◌≡◌, ℕ, ◌<◌, length, take}
use Rattle.std.specs.Prelude.{slice_index}
use Rattle.dep_order.specs.Graph.{needs_of}
use Rattle.build_plan.specs.Needs.{needs_from}
use Rattle.build_plan.proofs.needs.graph_of.Given as goal

abbrev pub invariant-loop-row : goal.invariant-loop-row
invariant-loop-row l = record {
  long : length l.needs.items ≡ length l.places;
  each : (node : ℕ) → node < length l.places → needs_of l.needs.items node
      ≡ needs_from l.rows.rows l.target l.places (take l.row-index l.row-items) (slice_index l.places node);
}
