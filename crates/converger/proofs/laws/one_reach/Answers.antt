use Rattle.converger.proofs.OneAnswer.{one_reach}
use Rattle.converger.proofs.laws.one_reach.Goals as goal

pub returns : goal.returns
returns c = one_reach
