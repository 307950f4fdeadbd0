use Rattle.hex_messages.proofs.WriteLemmas.{appends_none}
use Rattle.hex_messages.proofs.writer.push_text.Goals as goal

pub returns-in-None : goal.returns-in-None
returns-in-None c = rw c.in-None.is (appends_none c.args.out.now.items)
