use Rattle.std.proofs.Common.{◌+◌, sum, nat_cmp, btree_set_len}
use Rattle.std.specs.BTreeSet.{contains}
use Rattle.dep_order.proofs.Turns.{Stands}
use Rattle.dep_order.proofs.listing.listing_of.Given as goal

abbrev pub invariant-loop-place : goal.invariant-loop-place
invariant-loop-place l = Stands l.graph l.listed.items l.pending.items (contains nat_cmp l.ready)

abbrev pub decreases-loop-place : goal.decreases-loop-place
decreases-loop-place l = sum l.pending.items + btree_set_len l.ready
