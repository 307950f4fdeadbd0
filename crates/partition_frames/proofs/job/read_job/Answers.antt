use Rattle.std.proofs.lemmas.Result.{err_from_is_err_and}
use Rattle.partition_frames.specs.Frame.{fields_of}
use Rattle.partition_frames.specs.Pieces.{IsHeadOf, IsPlaceOf, IsWorkOf, head_of, place_of, work_of}
use Rattle.partition_frames.specs.Reading.{IsOfKind}
use Rattle.partition_frames.proofs.Before.{by_fault}
use Rattle.partition_frames.proofs.Bodies.{job_head_lacks, job_work_lacks, job_place_lacks}
use Rattle.partition_frames.proofs.job.read_job.Goals as goal

pub returns-in_err-head : goal.returns-in_err-head
returns-in_err-head c =
    let p = err_from_is_err_and c.from_residual.result c.from_residual.ensures.1 in
    rw (p.1, p.2)
    (by_fault head_of IsHeadOf c.args.text.now fields_of (IsOfKind 2) c.args.text.now
    (λ left l. job_head_lacks c.args.text.now left l)
    c.in_err-head.field-0.0 c.in_err-head.ensures)

pub returns-in_err-work : goal.returns-in_err-work
returns-in_err-work c =
    let p = err_from_is_err_and c.from_residual-in_err-work.result c.from_residual-in_err-work.ensures.1 in
    rw (p.1, p.2)
    (by_fault work_of IsWorkOf c.in_ok-head.rest.now fields_of (IsOfKind 2) c.args.text.now
    (λ left l. job_work_lacks c.in_ok-head.head c.args.text.now c.in_ok-head.rest.now left c.in_ok-head.ensures.0 c.in_ok-head.ensures.1 l)
    c.in_err-work.field-0.0 c.in_err-work.ensures)

pub returns-in_err-place : goal.returns-in_err-place
returns-in_err-place c =
    let p = err_from_is_err_and c.from_residual-in_err-place.result c.from_residual-in_err-place.ensures.1 in
    rw (p.1, p.2)
    (by_fault place_of IsPlaceOf c.in_ok-work.rest.now fields_of (IsOfKind 2) c.args.text.now
    (λ left l. job_place_lacks c.in_ok-head.head c.in_ok-work.work c.args.text.now c.in_ok-head.rest.now c.in_ok-work.rest.now left c.in_ok-head.ensures.0 c.in_ok-work.ensures.0 c.in_ok-head.ensures.1 c.in_ok-work.ensures.1 l)
    c.in_err-place.field-0.0 c.in_err-place.ensures)
