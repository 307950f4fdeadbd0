use Rattle.std.proofs.Common.{◌≡◌, ◌↔◌, ℕ, ◌<◌, get_or, nat_cmp, IsTrue}
use Rattle.std.specs.BTreeSet.{contains}
use Rattle.dep_order.proofs.listing.places_without_pending.Given as goal

abbrev pub invariant-loop-place : goal.invariant-loop-place
invariant-loop-place l = (q : ℕ) → IsTrue (contains nat_cmp l.ready q) ↔ ((q < l.place) × (get_or l.pending q 0 ≡ 0))
