use Rattle.unitc_call.proofs.LawLemmas.{ten_of_sink, two_of_others}
use Rattle.unitc_call.proofs.laws.statuses_have_causes.Goals as goal

pub returns-clause-words : goal.returns-clause-words
returns-clause-words c = two_of_others

pub returns-clause-sink : goal.returns-clause-sink
returns-clause-sink c = ten_of_sink
