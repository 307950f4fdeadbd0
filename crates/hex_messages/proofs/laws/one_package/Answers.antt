use Rattle.hex_messages.proofs.OnePackage.{one_package}
use Rattle.hex_messages.proofs.laws.one_package.Goals as goal

pub returns : goal.returns
returns c = one_package
