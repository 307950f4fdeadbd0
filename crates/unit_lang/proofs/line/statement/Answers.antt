use Rattle.std.proofs.lemmas.Result.{err_from_is_err_and}
use Rattle.unit_lang.proofs.Outcomes.{warn_says, warn_bad, plain_of}
use Rattle.unit_lang.proofs.line.statement.Goals as goal

pub returns-in_err-text-in-Some : goal.returns-in_err-text-in-Some
returns-in_err-text-in-Some c =
    let p = err_from_is_err_and c.from_residual.result c.from_residual.ensures.1 in
    rw (p.1, p.2) (warn_bad c.args.line.now c.in-Some.rest.now _ c.requires c.in-Some.ensures c.in_err-text-in-Some.ensures)

pub returns-in_ok-text-in-Some : goal.returns-in_ok-text-in-Some
returns-in_ok-text-in-Some c = warn_says c.args.line.now c.in-Some.rest.now _ c.in-Some.ensures c.in_ok-text-in-Some.ensures

pub statement_of-requires : goal.statement_of-requires
statement_of-requires c = record { short = c.requires; plain = plain_of c.args.line.now c.in-None.ensures }
