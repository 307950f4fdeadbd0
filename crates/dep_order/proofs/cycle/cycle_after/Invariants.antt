use Rattle.std.proofs.Common.{◌≡◌, ℕ, ◌<◌, false, not, length, get_or, count_by}
use Rattle.dep_order.specs.Listing.{is_listed, IsLeft}
use Rattle.dep_order.proofs.Walks.{IsTrail}
use Rattle.dep_order.proofs.cycle.cycle_after.Given as goal

abbrev pub invariant-loop-is_met : goal.invariant-loop-is_met
invariant-loop-is_met l = record {
  trail : IsTrail l.graph l.listing.listed.items l.start l.walk.items l.place;
  left : IsLeft l.graph l.listing.listed.items l.place;
  long : length l.is_met.items ≡ length l.graph;
  met : (q : ℕ) → q < length l.graph → get_or l.is_met.items q false ≡ is_listed l.walk.items q;
}

abbrev pub decreases-loop-is_met : goal.decreases-loop-is_met
decreases-loop-is_met l = count_by not l.is_met.items
