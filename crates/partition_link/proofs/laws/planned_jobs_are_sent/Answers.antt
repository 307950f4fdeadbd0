use Rattle.partition_link.proofs.Sending.{sound_is_sent}
use Rattle.partition_link.proofs.laws.planned_jobs_are_sent.Goals as goal

pub returns : goal.returns
returns c = sound_is_sent
