use Rattle.unit_lang.proofs.Apart.{spells_apart}
use Rattle.unit_lang.proofs.parse.faults_stand_apart.Goals as goal

pub returns : goal.returns
returns c = spells_apart
