use Rattle.staleness.proofs.DescribedLemmas.{described}
use Rattle.staleness.proofs.laws.matches_what_it_describes.Goals as goal

pub returns : goal.returns
returns c = described
