use Rattle.converger.proofs.Reached.{some_reach}
use Rattle.converger.proofs.laws.some_reach.Goals as goal

pub returns : goal.returns
returns c = some_reach
