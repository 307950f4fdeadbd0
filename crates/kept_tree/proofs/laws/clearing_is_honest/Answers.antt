use Rattle.kept_tree.proofs.LeftLemmas.{left_honest, left_tree_honest}
use Rattle.kept_tree.proofs.laws.clearing_is_honest.Goals as goal

pub returns : goal.returns
returns c = record { stops = left_honest; tree = left_tree_honest }
