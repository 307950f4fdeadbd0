use Rattle.hex_pick.proofs.Uniqueness.{once_there, one_best, one_way_only}
use Rattle.hex_pick.proofs.laws.one_best.Goals as goal

pub returns-clause-best : goal.returns-clause-best
returns-clause-best c = λ problem one other is k l. one_best problem one other (once_there problem is) k l

pub returns-clause-order : goal.returns-clause-order
returns-clause-order c = λ problem one other is k l. one_way_only problem one other (once_there problem is) k l
