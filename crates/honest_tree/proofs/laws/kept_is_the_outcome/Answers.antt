use Rattle.honest_tree.proofs.KeptLemmas.{kept_outcome}
use Rattle.honest_tree.proofs.laws.kept_is_the_outcome.Goals as goal

pub returns : goal.returns
returns c = kept_outcome
