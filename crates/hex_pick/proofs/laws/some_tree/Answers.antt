use Rattle.hex_pick.proofs.Nodes.{all_nodes}
use Rattle.hex_pick.proofs.laws.some_tree.Goals as goal

pub returns : goal.returns
returns c = all_nodes
