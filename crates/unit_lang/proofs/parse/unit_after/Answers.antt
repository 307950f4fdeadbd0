use Rattle.std.proofs.Common.{◌+◌, arith}
use Rattle.std.proofs.lemmas.Result.{err_from_is_err_and}
use Rattle.unit_lang.proofs.FileOutcomes.{follows_body, later_fault}
use Rattle.unit_lang.proofs.parse.unit_after.Goals as goal

pub returns : goal.returns
returns c = follows_body c.args.number (c.args.number + 1) c.args.name.now c.in-Ok.name _ c.in_ok-lines.lines c.in-Ok.ensures (omega arith) c.in_ok-lines.ensures

pub returns-in_err-lines : goal.returns-in_err-lines
returns-in_err-lines c =
    let p = err_from_is_err_and c.from_residual.result c.from_residual.ensures.1 in
    rw (p.1, p.2) (later_fault c.args.number (c.args.number + 1) _ _ (omega arith) c.in_err-lines.ensures)
