use Rattle.std.proofs.lemmas.Result.{err_from_is_err_and}
use Rattle.partition_frames.proofs.Bodies.{verdict_number_lacks, verdict_status_lacks, verdict_text_lacks}
use Rattle.partition_frames.proofs.parsing.read_verdict.Goals as goal

pub returns-in_err-number : goal.returns-in_err-number
returns-in_err-number c =
    let p = err_from_is_err_and c.from_residual.result c.from_residual.ensures.1 in
    rw (p.1, p.2)
    (verdict_number_lacks c.args.text.now c.in_err-number.field-0.0.left c.in_err-number.ensures)

pub returns-in_err-status : goal.returns-in_err-status
returns-in_err-status c =
    let p = err_from_is_err_and c.from_residual-in_err-status.result c.from_residual-in_err-status.ensures.1 in
    rw (p.1, p.2)
    (verdict_status_lacks c.in_ok-number.number c.args.text.now c.in_ok-number.rest.now c.in_err-status.field-0.0.left c.in_ok-number.ensures.0 c.in_ok-number.ensures.1 c.in_err-status.ensures)

pub returns-in_err-written : goal.returns-in_err-written
returns-in_err-written c =
    let p = err_from_is_err_and c.from_residual-in_err-written.result c.from_residual-in_err-written.ensures.1 in
    rw (p.1, p.2)
    (verdict_text_lacks c.in_ok-number.number c.in_ok-status.status c.args.text.now c.in_ok-number.rest.now c.in_ok-status.rest.now c.in_err-written.field-0.0.left c.in_ok-number.ensures.0 c.in_ok-status.ensures.0 c.in_ok-number.ensures.1 c.in_ok-status.ensures.1 c.in_err-written.ensures)
