use Rattle.version_req.proofs.Answered.{read_or_refused}
use Rattle.version_req.proofs.requirement.each_is_read_or_refused.Goals as goal

pub returns : goal.returns
returns c = read_or_refused
