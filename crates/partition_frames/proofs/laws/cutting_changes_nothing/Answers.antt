use Rattle.partition_frames.proofs.Streams.{one_cut}
use Rattle.partition_frames.proofs.laws.cutting_changes_nothing.Goals as goal

pub returns : goal.returns
returns c = one_cut
