use Rattle.std.proofs.Common.{◌≡◌, ℕ, get_or, map, take, nat_cmp}
use Rattle.std.specs.BTreeSet.{contains}
use Rattle.dep_order.specs.Listing.{is_listed}
use Rattle.dep_order.proofs.ranks.ranks_among.Given as goal

abbrev pub invariant-loop-place : goal.invariant-loop-place
invariant-loop-place l = (rank : ℕ) → contains nat_cmp l.set rank ≡ is_listed (map (λ place. get_or l.ranks place 0) (take l.place-index l.places)) rank
