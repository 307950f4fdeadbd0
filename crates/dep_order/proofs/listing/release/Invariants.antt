use Rattle.std.proofs.Common.{◌+◌, ◌≤◌, take, sum, nat_cmp, btree_set_len}
use Rattle.std.specs.BTreeSet.{contains}
use Rattle.dep_order.specs.Pending.{Releases}
use Rattle.dep_order.proofs.listing.release.Given as goal

abbrev pub invariant-loop-place : goal.invariant-loop-place
invariant-loop-place l = record {
  releases : Releases (take l.place-index l.places) l.fn.pending.items l.pending.items (contains nat_cmp l.fn.ready) (contains nat_cmp l.ready);
  work : sum l.pending.items + btree_set_len l.ready ≤ sum l.fn.pending.items + btree_set_len l.fn.ready;
}
