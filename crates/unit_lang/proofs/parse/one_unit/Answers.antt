use Rattle.unit_lang.proofs.OneLemmas.{spells_one}
use Rattle.unit_lang.proofs.parse.one_unit.Goals as goal

pub returns : goal.returns
returns c = spells_one
