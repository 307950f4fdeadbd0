use Rattle.unit_lang.proofs.OneFault.{faults_one}
use Rattle.unit_lang.proofs.parse.one_fault.Goals as goal

pub returns : goal.returns
returns c = faults_one
