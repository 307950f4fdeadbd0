use Rattle.std.proofs.lemmas.Result.{err_from_is_err_and}
use Rattle.mx_base.specs.AppName.{IsAppName}
use Rattle.partition_frames.specs.Frame.{text_field}
use Rattle.partition_frames.specs.Pieces.{IsHeadOf, head_of}
use Rattle.partition_frames.proofs.Before.{by_fault}
use Rattle.partition_frames.proofs.Bodies.{head_number_lacks, head_env_lacks, head_app_lacks}
use Rattle.partition_frames.proofs.job.read_head.Goals as goal

pub returns-in_err-number : goal.returns-in_err-number
returns-in_err-number c =
    let p = err_from_is_err_and c.from_residual.result c.from_residual.ensures.1 in
    rw (p.1, p.2)
    (head_number_lacks c.args.text.now c.in_err-number.field-0.0.left c.in_err-number.ensures)

pub returns-in_err-env : goal.returns-in_err-env
returns-in_err-env c =
    let p = err_from_is_err_and c.from_residual-in_err-env.result c.from_residual-in_err-env.ensures.1 in
    rw (p.1, p.2)
    (by_fault text_field IsAppName c.in_ok-number.rest.now head_of IsHeadOf c.args.text.now
    (λ left l. head_env_lacks c.in_ok-number.number c.args.text.now c.in_ok-number.rest.now left c.in_ok-number.ensures.0 c.in_ok-number.ensures.1 l)
    c.in_err-env.field-0.0 c.in_err-env.ensures)

pub returns-in_err-app : goal.returns-in_err-app
returns-in_err-app c =
    let p = err_from_is_err_and c.from_residual-in_err-app.result c.from_residual-in_err-app.ensures.1 in
    rw (p.1, p.2)
    (by_fault text_field IsAppName c.in_ok-env.rest.now head_of IsHeadOf c.args.text.now
    (λ left l. head_app_lacks c.in_ok-number.number c.in_ok-env.env c.args.text.now c.in_ok-number.rest.now c.in_ok-env.rest.now left c.in_ok-number.ensures.0 c.in_ok-env.ensures.0 c.in_ok-number.ensures.1 c.in_ok-env.ensures.1 l)
    c.in_err-app.field-0.0 c.in_err-app.ensures)
