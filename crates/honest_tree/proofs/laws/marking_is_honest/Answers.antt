use Rattle.honest_tree.proofs.HonestLemmas.{marking_honest}
use Rattle.honest_tree.proofs.laws.marking_is_honest.Goals as goal

pub returns : goal.returns
returns c = marking_honest
