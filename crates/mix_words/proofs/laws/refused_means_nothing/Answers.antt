use Rattle.mix_words.proofs.laws.refused_means_nothing.Goals as goal

pub returns : goal.returns
returns c = λ words at command refused means. refused.nothing (command, means)
