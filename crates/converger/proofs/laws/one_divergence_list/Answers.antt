use Rattle.converger.proofs.OneAnswer.{one_divergence_list}
use Rattle.converger.proofs.laws.one_divergence_list.Goals as goal

pub returns : goal.returns
returns c = one_divergence_list
