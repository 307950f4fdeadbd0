use Rattle.version_req.proofs.Complete.{one_requirement}
use Rattle.version_req.proofs.requirement.one_requirement.Goals as goal

pub returns : goal.returns
returns c = one_requirement
