use Rattle.dep_order.proofs.Cycles.{left_needs_left}
use Rattle.dep_order.proofs.laws.places_left_need_places_left.Goals as goal

pub returns : goal.returns
returns c = λ listed. left_needs_left c.args.graph.now listed c.needs-needs.ensures.within
