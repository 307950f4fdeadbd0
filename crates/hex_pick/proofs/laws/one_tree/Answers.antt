use Rattle.hex_pick.proofs.Nodes.{one_tree}
use Rattle.hex_pick.proofs.laws.one_tree.Goals as goal

pub returns : goal.returns
returns c = λ problem roots nodes others a b. one_tree {problem = problem} roots nodes others a b
