use Rattle.honest_tree.proofs.KeptLemmas.{one_kept, some_kept}
use Rattle.honest_tree.proofs.laws.one_kept.Goals as goal

pub returns : goal.returns
returns c = record { one = one_kept; some = some_kept }
