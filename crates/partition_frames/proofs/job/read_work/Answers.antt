use Rattle.std.proofs.lemmas.Result.{err_from_is_err_and}
use Rattle.partition_frames.specs.Frame.{IsHow, IsList, IsVariable, how_fields, list_fields, variable_fields}
use Rattle.partition_frames.specs.Pieces.{IsWorkOf, work_of}
use Rattle.partition_frames.proofs.Before.{by_fault}
use Rattle.partition_frames.proofs.Bodies.{work_options_lack, work_how_lacks, work_variables_lack}
use Rattle.partition_frames.proofs.job.read_work.Goals as goal

pub returns-in_err-options : goal.returns-in_err-options
returns-in_err-options c =
    let p = err_from_is_err_and c.from_residual.result c.from_residual.ensures.1 in
    rw (p.1, p.2)
    (work_options_lack c.args.text.now c.in_err-options.field-0.0.left c.in_err-options.ensures)

pub returns-in_err-how : goal.returns-in_err-how
returns-in_err-how c =
    let p = err_from_is_err_and c.from_residual-in_err-how.result c.from_residual-in_err-how.ensures.1 in
    rw (p.1, p.2)
    (by_fault how_fields IsHow c.in_ok-options.rest.now work_of IsWorkOf c.args.text.now
    (λ left l. work_how_lacks c.in_ok-options.options.now c.args.text.now c.in_ok-options.rest.now left c.in_ok-options.ensures.0 c.in_ok-options.ensures.1 l)
    c.in_err-how.field-0.0 c.in_err-how.ensures)

pub returns-in_err-system_env : goal.returns-in_err-system_env
returns-in_err-system_env c =
    let p = err_from_is_err_and c.from_residual-in_err-system_env.result c.from_residual-in_err-system_env.ensures.1 in
    rw (p.1, p.2)
    (by_fault (list_fields variable_fields) (IsList IsVariable) c.in_ok-how.rest.now work_of IsWorkOf c.args.text.now
    (λ left l. work_variables_lack c.in_ok-options.options.now c.in_ok-how.how c.args.text.now c.in_ok-options.rest.now c.in_ok-how.rest.now left c.in_ok-options.ensures.0 c.in_ok-how.ensures.0 c.in_ok-options.ensures.1 c.in_ok-how.ensures.1 l)
    c.in_err-system_env.field-0.0 c.in_err-system_env.ensures)
