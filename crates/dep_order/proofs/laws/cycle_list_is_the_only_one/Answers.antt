use Rattle.dep_order.proofs.Cycles.{one_cycle, order_or_cycle}
use Rattle.dep_order.proofs.laws.cycle_list_is_the_only_one.Goals as goal

pub returns-clause-one : goal.returns-clause-one
returns-clause-one c = one_cycle c.args.graph.now

pub returns-clause-none : goal.returns-clause-none
returns-clause-none c = order_or_cycle c.args.graph.now
