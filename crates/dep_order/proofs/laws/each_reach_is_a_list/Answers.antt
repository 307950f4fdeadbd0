use Rattle.dep_order.proofs.ReachedLists.{reach_exists}
use Rattle.dep_order.proofs.laws.each_reach_is_a_list.Goals as goal

pub returns : goal.returns
returns c = λ starts within. reach_exists c.args.graph.now starts c.needs-needs.ensures.within within
