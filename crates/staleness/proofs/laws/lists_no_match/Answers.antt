use Rattle.staleness.proofs.RuleLemmas.{no_reason}
use Rattle.staleness.proofs.laws.lists_no_match.Goals as goal

pub returns : goal.returns
returns c = no_reason
