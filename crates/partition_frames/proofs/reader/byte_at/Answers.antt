use Rattle.partition_frames.proofs.Wholes.{none_at}
use Rattle.partition_frames.proofs.reader.byte_at.Goals as goal

pub returns-in-None : goal.returns-in-None
returns-in-None c = none_at c.args.held.now.items c.args.i c.in-None.ensures
