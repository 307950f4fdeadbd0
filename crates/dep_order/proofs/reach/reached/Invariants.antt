use Rattle.std.proofs.Common.{◌≡◌, ℕ, ◌-◌, length, nat_cmp}
use Rattle.std.specs.BTreeSet.{contains}
use Rattle.dep_order.specs.Listing.{is_listed}
use Rattle.dep_order.proofs.Searching.{IsSearch}
use Rattle.dep_order.proofs.reach.reached.Given as goal

abbrev pub invariant-loop-at : goal.invariant-loop-at
invariant-loop-at l = record {
  same : (q : ℕ) → contains nat_cmp l.met q ≡ is_listed l.queue.items q;
  search : IsSearch l.graph l.starts l.at l.queue.items;
}

abbrev pub decreases-loop-at : goal.decreases-loop-at
decreases-loop-at l = length l.graph - l.at
