use Rattle.partition_frames.proofs.Streams.{none_in_part}
use Rattle.partition_frames.proofs.laws.none_stands_in_part.Goals as goal

pub returns : goal.returns
returns c = none_in_part
