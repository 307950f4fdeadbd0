use Rattle.std.proofs.Common.{◌≡◌, ℕ, ◌<◌, length, take}
use Rattle.dep_order.specs.Graph.{needs_of}
use Rattle.converger.specs.Reach.{is_asked_by, winners_among}
use Rattle.converger.proofs.web.links_of.Given as goal

abbrev pub invariant-loop-row : goal.invariant-loop-row
invariant-loop-row l = record {
  long : length l.links.items ≡ length l.rows.rows;
  each : (place : ℕ) → place < length l.rows.rows → needs_of l.links.items place
      ≡ winners_among l.rows.rows (is_asked_by l.target place) (take l.row-index l.rows.rows);
}
