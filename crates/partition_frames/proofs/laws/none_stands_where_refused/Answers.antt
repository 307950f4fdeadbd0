use Rattle.partition_frames.proofs.Streams.{none_where_refused}
use Rattle.partition_frames.proofs.laws.none_stands_where_refused.Goals as goal

pub returns : goal.returns
returns c = λ bytes rest error frame r s. none_where_refused bytes rest error.cause error.at frame r s
