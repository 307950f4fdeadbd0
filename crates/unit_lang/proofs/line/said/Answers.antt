use Rattle.std.proofs.Common.{sym, ◌∙◌, ap, arith, subst}
use Rattle.std.proofs.lemmas.Result.{err_from_is_err_and}
use Rattle.unit_lang.specs.declared.progress.Progress.{Progress}
use Rattle.unit_lang.specs.Tokens.{without_blanks, without_comment}
use Rattle.unit_lang.proofs.Reached.{Reached, reached_first, empty_is, more_is}
use Rattle.unit_lang.proofs.Outcomes.{lex_fault, stop_fault, reached_advance, finish_outcome}
use Rattle.unit_lang.proofs.TokenLemmas.{first_shorter}
use Rattle.unit_lang.proofs.line.said.Goals as goal

pub loop-rest-init : goal.loop-rest-init
loop-rest-init c =
    let text = without_comment c.args.line.now in
    let rest = c.skip_blanks-rest.result.now in
    let is = c.skip_blanks-rest.ensures.value ∙ ap without_blanks c.before_comment.ensures in
    subst (λ (p : Progress). Reached text p.state p.great rest) (sym c.first-progress.ensures) (reached_first text rest (sym is))

pub loop-rest-smaller : goal.loop-rest-smaller
loop-rest-smaller c = omega (arith, first_shorter c.loop-rest.rest.now c.in-Ok.found.0 c.in-Ok.found.1.now c.in-Ok.ensures)

pub loop-rest-preserved : goal.loop-rest-preserved
loop-rest-preserved c = reached_advance c.args.line.now c.loop-rest.progress c.in_ok-progress.progress c.loop-rest.rest.now c.in-Ok.found.1.now c.skip_blanks-rest-in-loop-rest.result.now c.in-Ok.found.0 c.loop-rest.invariant c.in-Ok.ensures c.in_ok-progress.ensures c.skip_blanks-rest-in-loop-rest.ensures.value

pub returns-in-Err : goal.returns-in-Err
returns-in-Err c = lex_fault c.args.line.now c.loop-rest.progress.state c.loop-rest.progress.great c.loop-rest.rest.now c.in-Err.cause c.fault-cause.result c.requires.short c.requires.plain c.requires.solid c.loop-rest.invariant (more_is c.loop-rest.rest.now c.is_empty.result c.is_empty.ensures c.loop-rest-test.true) c.in-Err.ensures c.fault-cause.ensures

pub returns-in_err-progress : goal.returns-in_err-progress
returns-in_err-progress c =
    let p = err_from_is_err_and c.from_residual.result c.from_residual.ensures.1 in
    rw (p.1, p.2) (stop_fault c.args.line.now c.loop-rest.progress c.loop-rest.rest.now c.in-Ok.found.1.now c.in-Ok.found.0 _ c.requires.short c.requires.plain c.requires.solid c.loop-rest.invariant (more_is c.loop-rest.rest.now c.is_empty.result c.is_empty.ensures c.loop-rest-test.true) c.in-Ok.ensures c.in_err-progress.ensures)

pub returns : goal.returns
returns c = finish_outcome c.args.line.now c.loop-rest.progress c.loop-rest.rest.now c.finished.result c.requires.short c.requires.plain c.requires.solid c.loop-rest.invariant (empty_is c.loop-rest.rest.now c.is_empty.result c.is_empty.ensures c.loop-rest-test.false) c.finished.ensures
