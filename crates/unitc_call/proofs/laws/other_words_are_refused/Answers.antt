use Rattle.unitc_call.proofs.LawLemmas.{others_refused}
use Rattle.unitc_call.proofs.laws.other_words_are_refused.Goals as goal

pub returns : goal.returns
returns c = others_refused
