use Rattle.std.proofs.Common.{sym, ◌∙◌, arith}
use Rattle.staleness.proofs.ChangeLemmas.{change_here, same_more, longer_rows, longer_others}
use Rattle.staleness.proofs.report.first_change.Goals as goal

pub returns-then-not-same_row : goal.returns-then-not-same_row
returns-then-not-same_row c =
    change_here c.args.rows.now c.args.others.now c.loop-at.at c.index-rows-at.result c.index-others-at.result
    c.index-rows-at-then-not-same_row.result c.index-others-at-then-not-same_row.result c.lesser.result.now
    c.requires.rows c.requires.others c.loop-at.invariant (omega arith) (omega arith) c.index-rows-at.is c.index-others-at.is
    (sym c.same_row.ensures ∙ c.if-not-same_row.true) c.lesser.ensures

pub loop-at-preserved : goal.loop-at-preserved
loop-at-preserved c =
    same_more c.args.rows.now c.args.others.now c.loop-at.at c.index-rows-at.result c.index-others-at.result c.loop-at.invariant
    (omega arith) (omega arith) c.index-rows-at.is c.index-others-at.is (sym c.same_row.ensures ∙ c.if-not-same_row.false)

pub returns-in-Some : goal.returns-in-Some
returns-in-Some c =
    let found = c.in-Some.ensures.lookup.3 in
    longer_rows c.args.rows.now c.args.others.now c.loop-at.at c.min-common.result c.in-Some.row.now c.requires.rows c.requires.others
    c.loop-at.invariant (omega arith) found.0 (omega arith) (found.1 c.in-Some.row.now)

pub returns-in_ok-get-in-None : goal.returns-in_ok-get-in-None
returns-in_ok-get-in-None c =
    let found = c.in_ok-get-in-None.ensures.lookup.3 in
    longer_others c.args.rows.now c.args.others.now c.loop-at.at c.min-common.result c.in_ok-get-in-None.field-0.now c.requires.rows c.requires.others
    c.loop-at.invariant (omega arith) found.0 c.in-None.ensures.lookup.3 (found.1 c.in_ok-get-in-None.field-0.now)
