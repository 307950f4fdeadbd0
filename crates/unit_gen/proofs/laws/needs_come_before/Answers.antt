use Rattle.unit_gen.proofs.DrawLemmas.{are_needs}
use Rattle.unit_gen.proofs.laws.needs_come_before.Goals as goal

pub returns : goal.returns
returns c = are_needs
