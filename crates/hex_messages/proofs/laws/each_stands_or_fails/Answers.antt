use Rattle.hex_messages.proofs.Exists.{each_stands_or_fails}
use Rattle.hex_messages.proofs.laws.each_stands_or_fails.Goals as goal

pub returns : goal.returns
returns c = each_stands_or_fails
