use Rattle.dep_rows.proofs.Outcomes.{one_list}
use Rattle.dep_rows.proofs.laws.one_list.Goals as goal

pub returns : goal.returns
returns g c known = one_list (g.C.Children.children_of known)
