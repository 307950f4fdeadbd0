use Rattle.dep_order.proofs.Closing.{reached_from_closed}
use Rattle.dep_order.proofs.Reaching.{needs_are_reached, further_needs_are_reached, reached_in_closed}
use Rattle.dep_order.proofs.laws.reach_is_the_least_closed_set.Goals as goal

pub returns-clause-direct : goal.returns-clause-direct
returns-clause-direct c = needs_are_reached c.args.graph.now

pub returns-clause-further : goal.returns-clause-further
returns-clause-further c = further_needs_are_reached c.args.graph.now

pub returns-clause-least : goal.returns-clause-least
returns-clause-least c = reached_in_closed c.args.graph.now

pub returns-clause-every : goal.returns-clause-every
returns-clause-every c = reached_from_closed c.args.graph.now
