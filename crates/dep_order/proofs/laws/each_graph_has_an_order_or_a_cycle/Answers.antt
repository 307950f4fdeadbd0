use Rattle.dep_order.proofs.Ends.{order_or_cycle_list}
use Rattle.dep_order.proofs.laws.each_graph_has_an_order_or_a_cycle.Goals as goal

pub returns : goal.returns
returns c = order_or_cycle_list c.args.graph.now c.needs-needs.ensures.within
