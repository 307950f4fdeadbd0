use Rattle.dep_options.proofs.SomeLemmas.{some_of}
use Rattle.dep_options.proofs.reader.some_answer.Goals as goal

pub returns : goal.returns
returns c = some_of
