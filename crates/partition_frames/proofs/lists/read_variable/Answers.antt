use Rattle.std.proofs.lemmas.Result.{err_from_is_err_and}
use Rattle.partition_frames.proofs.Counted.{variable_name_lacks, variable_value_lacks}
use Rattle.partition_frames.proofs.lists.read_variable.Goals as goal

pub returns-in_err-name : goal.returns-in_err-name
returns-in_err-name c =
    let p = err_from_is_err_and c.from_residual.result c.from_residual.ensures.1 in
    rw (p.1, p.2) (variable_name_lacks c.args.text.now c.in_err-name.field-0.0.left c.in_err-name.ensures)

pub returns-in_err-value : goal.returns-in_err-value
returns-in_err-value c =
    let read = c.in_ok-name.ensures in
    let p = err_from_is_err_and c.from_residual-in_err-value.result c.from_residual-in_err-value.ensures.1 in
    rw (p.1, p.2)
    (variable_value_lacks c.in_ok-name.name.now c.args.text.now c.in_ok-name.rest.now c.in_err-value.field-0.0.left read.0 read.1 c.in_err-value.ensures)
