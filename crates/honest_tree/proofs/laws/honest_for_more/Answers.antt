use Rattle.honest_tree.proofs.HonestLemmas.{more_holding, more_tree}
use Rattle.honest_tree.proofs.laws.honest_for_more.Goals as goal

pub returns : goal.returns
returns c = record { holding = more_holding; tree = more_tree }
