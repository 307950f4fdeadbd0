use Rattle.dep_rows.proofs.Exists.{some_outcome}
use Rattle.dep_rows.proofs.laws.some_outcome.Goals as goal

pub returns : goal.returns
returns g c known = some_outcome g.C.Children.children_of known
