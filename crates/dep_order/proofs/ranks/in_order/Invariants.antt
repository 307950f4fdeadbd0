use Rattle.std.proofs.Common.{◌≡◌, get_or, map, take}
use Rattle.dep_order.proofs.ranks.in_order.Given as goal

abbrev pub invariant-loop-rank : goal.invariant-loop-rank
invariant-loop-rank l = l.sorted.items ≡ map (λ rank. get_or l.order rank 0) (take l.rank-index l.rank-items)
