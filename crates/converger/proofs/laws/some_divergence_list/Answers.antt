use Rattle.converger.proofs.Exists.{some_divergence_list}
use Rattle.converger.proofs.laws.some_divergence_list.Goals as goal

pub returns : goal.returns
returns c = some_divergence_list
