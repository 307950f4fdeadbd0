use Rattle.mix_words.proofs.MeaningLemmas.{one_meaning}
use Rattle.mix_words.proofs.laws.one_command.Goals as goal

pub returns : goal.returns
returns c = one_meaning
