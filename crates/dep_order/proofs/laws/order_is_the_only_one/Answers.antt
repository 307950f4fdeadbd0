use Rattle.dep_order.proofs.Listings.{one_order, order_not_stuck}
use Rattle.dep_order.proofs.laws.order_is_the_only_one.Goals as goal

pub returns-clause-one : goal.returns-clause-one
returns-clause-one c = one_order c.args.graph.now

pub returns-clause-none : goal.returns-clause-none
returns-clause-none c = order_not_stuck c.args.graph.now
