use Rattle.hex_messages.proofs.WriteLemmas.{appends_none}
use Rattle.hex_messages.proofs.writer.push_truth.Goals as goal

pub returns-else-truth : goal.returns-else-truth
returns-else-truth c = rw c.if-truth.false (appends_none c.args.out.now.items)
