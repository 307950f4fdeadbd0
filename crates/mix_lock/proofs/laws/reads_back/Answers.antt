use Rattle.mix_lock.proofs.BackLemmas.{reads_back}
use Rattle.mix_lock.proofs.laws.reads_back.Goals as goal

pub returns : goal.returns
returns c = reads_back
