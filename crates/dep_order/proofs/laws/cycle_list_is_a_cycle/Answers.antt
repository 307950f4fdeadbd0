use Rattle.dep_order.proofs.Cycles.{cycle_is_cycle, cycle_left}
use Rattle.dep_order.proofs.laws.cycle_list_is_a_cycle.Goals as goal

pub returns-clause-cycle : goal.returns-clause-cycle
returns-clause-cycle c = cycle_is_cycle c.args.graph.now

pub returns-clause-left : goal.returns-clause-left
returns-clause-left c = λ listed cycle around. cycle_left c.args.graph.now listed cycle around c.needs-needs.ensures.within
