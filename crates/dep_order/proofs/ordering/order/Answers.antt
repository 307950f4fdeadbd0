use Rattle.dep_order.proofs.Walks.{first_left_from_zeros}
use Rattle.dep_order.proofs.ordering.order.Goals as goal

pub cycle_after-requires-clause-start : goal.cycle_after-requires-clause-start
cycle_after-requires-clause-start c =
    first_left_from_zeros c.args.graph.now _ _ c.in_ok-listing.ensures c.in-Some.start c.in-Some.ensures.waits c.in-Some.ensures.first
