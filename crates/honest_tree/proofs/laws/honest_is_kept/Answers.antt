use Rattle.honest_tree.proofs.KeptLemmas.{honest_kept}
use Rattle.honest_tree.proofs.laws.honest_is_kept.Goals as goal

pub returns : goal.returns
returns c = honest_kept
