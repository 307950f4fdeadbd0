use Rattle.reading.proofs.Refusals as refusals
use Rattle.mix_words.specs.Meaning.{IsMeant}
use Rattle.mix_words.proofs.laws.one_place.Goals as goal

pub returns : goal.returns
returns c = refusals.one_place IsMeant
