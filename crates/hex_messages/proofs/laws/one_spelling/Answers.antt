use Rattle.hex_messages.proofs.OneSpelling.{one_spelling}
use Rattle.hex_messages.proofs.laws.one_spelling.Goals as goal

pub returns : goal.returns
returns c = one_spelling
