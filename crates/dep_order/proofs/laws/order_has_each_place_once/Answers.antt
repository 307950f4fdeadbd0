use Rattle.dep_order.proofs.Listings.{order_apart, order_has_places}
use Rattle.dep_order.proofs.laws.order_has_each_place_once.Goals as goal

pub returns-clause-once : goal.returns-clause-once
returns-clause-once c = order_apart c.args.graph.now

pub returns-clause-each : goal.returns-clause-each
returns-clause-each c = order_has_places c.args.graph.now
