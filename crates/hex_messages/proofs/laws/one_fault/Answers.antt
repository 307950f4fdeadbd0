use Rattle.hex_messages.proofs.OneFault.{one_first_fault}
use Rattle.hex_messages.proofs.laws.one_fault.Goals as goal

pub returns : goal.returns
returns c = one_first_fault
