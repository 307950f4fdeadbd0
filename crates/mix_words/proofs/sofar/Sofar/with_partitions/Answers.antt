use Rattle.mix_words.specs.Sofar.{state_of}
use Rattle.mix_words.proofs.LiveLemmas.{no_count}
use Rattle.mix_words.proofs.sofar.Sofar.with_partitions.Goals as goal

pub returns-in_default : goal.returns-in_default
returns-in_default c = λ is. no_count (state_of c.args.self) c.args.value.now c.in_default.ensures.none
