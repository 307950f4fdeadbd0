use Rattle.std.proofs.Common.{subst, sym}
use Rattle.partition_frames.specs.Frame.{IsPlace, IsSmall, IsSound}
use Rattle.partition_frames.proofs.Sizes.{job_needs_few, job_work_short}
use Rattle.partition_frames.proofs.writing.push_payload.Goals as goal

pub push_work-requires : goal.push_work-requires
push_work-requires c =
    let j = c.in-Job in
    let work = job_work_short j.number j.env j.app j.options j.how j.system_env j.dir j.needs (subst IsSmall j.is c.requires.small) in
    rw (c.as_slice-in-Job.ensures, c.as_slice-in-Job-2.ensures) work

pub push_place-requires-clause-few : goal.push_place-requires-clause-few
push_place-requires-clause-few c =
    let j = c.in-Job in
    let few = job_needs_few j.number j.env j.app j.options j.how j.system_env j.dir j.needs (subst IsSmall j.is c.requires.small) in
    rw c.as_slice-in-Job-3.ensures few

pub returns-in_ok-push_place-in-Job-clause-sound : goal.returns-in_ok-push_place-in-Job-clause-sound
returns-in_ok-push_place-in-Job-clause-sound c =
    let j = c.in-Job in
    let small = subst IsSmall j.is c.requires.small in
    let work = job_work_short j.number j.env j.app j.options j.how j.system_env j.dir j.needs small in
    let place = subst (IsPlace j.dir) c.as_slice-in-Job-3.ensures c.in_ok-push_place-in-Job.ensures.sound in
    subst IsSound (sym j.is) (c.in_ok-push_head-in-Job.ensures.sound, (work, place))
