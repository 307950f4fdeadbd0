use Rattle.std.proofs.Common.{◌≡◌, ℕ, nat_cmp, nat_eq, take}
use Rattle.std.specs.BTreeSet.{contains}
use Rattle.std.specs.List.{IsDistinct}
use Rattle.dep_order.specs.Listing.{is_listed}
use Rattle.dep_order.specs.Search.{Adds}
use Rattle.dep_order.proofs.reach.add_all.Given as goal

abbrev pub invariant-loop-place : goal.invariant-loop-place
invariant-loop-place l = record {
  same : (q : ℕ) → contains nat_cmp l.met q ≡ is_listed l.queue.items q;
  apart : IsDistinct nat_eq l.queue.items;
  adds : Adds (take l.place-index l.places) l.fn.queue.items l.queue.items;
}
