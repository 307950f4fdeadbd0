use Rattle.partition_frames.proofs.Streams.{given, pushed}
use Rattle.partition_frames.proofs.laws.streams_go_on.Goals as goal

pub returns : goal.returns
returns c = record { push = pushed; next = given }
