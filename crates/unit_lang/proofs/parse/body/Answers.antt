use Rattle.std.proofs.Common.{◌+◌, arith}
use Rattle.std.proofs.lemmas.Result.{err_from_is_err_and}
use Rattle.unit_lang.proofs.FileLemmas.{heard_first, heard_all}
use Rattle.unit_lang.proofs.FileOutcomes.{heard_next, heard_stop, none_left}
use Rattle.unit_lang.proofs.parse.body.Goals as goal

pub loop-rest-init : goal.loop-rest-init
loop-rest-init c = record { heard = rw c.new-said.ensures (heard_first c.args.first _); room = omega (arith, c.requires) }

pub loop-rest-preserved : goal.loop-rest-preserved
loop-rest-preserved c =
    let h = rw c.in-Some.is at c.loop-rest.invariant in
    record {
      heard = heard_next _ _ c.loop-rest.number (c.loop-rest.number + 1) c.first_line.result.0.now _ _ _ _ (omega arith) h.heard c.first_line.ensures.lines c.in_ok-hear.ensures;
      room = omega (arith, h.room, c.first_line.ensures.shorter);
    }

pub loop-rest-smaller : goal.loop-rest-smaller
loop-rest-smaller c = rw c.in-Some.is (omega (arith, c.first_line.ensures.shorter))

pub returns-in_err-hear : goal.returns-in_err-hear
returns-in_err-hear c =
    let h = rw c.in-Some.is at c.loop-rest.invariant in
    let p = err_from_is_err_and c.from_residual.result c.from_residual.ensures.1 in
    rw (p.1, p.2) (heard_stop _ _ c.loop-rest.number c.first_line.result.0.now _ _ _ _ h.heard c.first_line.ensures.lines c.in_err-hear.ensures)

pub returns : goal.returns
returns c =
    let e = none_left c.loop-rest.rest c.in_default.not-Some in
    let h = rw e at c.loop-rest.invariant in
    heard_all c.args.first _ c.loop-rest.number c.loop-rest.said h.heard
