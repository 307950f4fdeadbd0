use Rattle.dep_order.proofs.Reaching.{reached_comes_first}
use Rattle.dep_order.proofs.laws.needs_come_first.Goals as goal

pub returns : goal.returns
returns c = reached_comes_first c.args.graph.now
