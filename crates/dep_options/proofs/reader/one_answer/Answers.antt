use Rattle.dep_options.proofs.OneLemmas.{one_of}
use Rattle.dep_options.proofs.reader.one_answer.Goals as goal

pub returns : goal.returns
returns c = λ base term answer other p q. one_of c.one_requirement.ensures p q
