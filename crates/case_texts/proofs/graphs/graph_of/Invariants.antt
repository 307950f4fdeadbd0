use Rattle.std.proofs.Common.{◌≡◌, ◌<◌, length, All}
use Rattle.case_texts.proofs.graphs.graph_of.Given as goal

abbrev pub invariant-loop-row : goal.invariant-loop-row
invariant-loop-row l = record {
  within : All (λ needs. All (λ need. need < length l.row-items) needs) l.needs.items;
  long : length l.needs.items ≡ l.row-index;
}
