use Rattle.hex_pick.proofs.Uniqueness.{node_valid, valid_node}
use Rattle.hex_pick.proofs.laws.valid_are_nodes.Goals as goal

pub returns-clause-valid_node : goal.returns-clause-valid_node
returns-clause-valid_node c = valid_node

pub returns-clause-node_valid : goal.returns-clause-node_valid
returns-clause-node_valid c = node_valid
