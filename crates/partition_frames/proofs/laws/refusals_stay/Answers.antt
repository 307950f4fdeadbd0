use Rattle.partition_frames.proofs.Wholes.{refusal_stays}
use Rattle.partition_frames.proofs.laws.refusals_stay.Goals as goal

pub returns : goal.returns
returns c = λ bytes more error r. refusal_stays bytes more error.cause error.at r
