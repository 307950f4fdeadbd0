use Rattle.hex_messages.proofs.Apart.{package_apart}
use Rattle.hex_messages.proofs.laws.faults_stand_apart.Goals as goal

pub returns : goal.returns
returns c = package_apart
