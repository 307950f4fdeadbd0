use Rattle.std.proofs.Common.{length, ap, ◌∙◌, arith}
use Rattle.std.proofs.lemmas.List.{length-set}
use Rattle.std.proofs.lemmas.Bool.{both_ways}
use Rattle.converger.proofs.StrayLemmas.{stray_yes, stray_no, stray_all}
use Rattle.converger.proofs.strays.add_strays.Goals as goal
use Rattle.converger.proofs.strays.add_strays.Goals.{then-is_stray, else-is_stray}

pub loop-other-preserved : goal.loop-other-preserved
loop-other-preserved c =
    let rows = c.args.web.now.rows.now.rows in
    let env = c.args.env.now in
    let target = c.args.web.now.target.now in
    let old = c.loop-other.strays.items in
    let other = c.loop-other.other in
    elim c.if-is_stray.branch [
      | then-is_stray w ↦ rw (w.strays-is, w.mark.ensures) (record {
        long = length-set old other _ ∙ c.loop-other.invariant.long;
        marks = stray_yes rows env target c.args.strays.now.items old other (omega (arith, ap length c.rows-other-end.ensures.rows))
            c.loop-other.invariant.marks (c.is_stray.ensures.0 w.if-is_stray.true);
      })
      | else-is_stray w ↦ rw w.strays-is (record {
        long = c.loop-other.invariant.long;
        marks = stray_no rows env target c.args.strays.now.items old other c.loop-other.invariant.marks
            (λ s. both_ways _ w.if-is_stray.false (c.is_stray.ensures.1 s));
      })
    ]

pub returns-clause-marks : goal.returns-clause-marks
returns-clause-marks c =
    let past = ap length c.rows-other-end.ensures.rows in
    stray_all c.args.web.now.rows.now.rows c.args.env.now c.args.web.now.target.now c.args.strays.now.items c.loop-other.strays.items c.loop-other.other
    (omega (arith, past)) c.loop-other.invariant.marks

pub is_stray-requires-clause-reached : goal.is_stray-requires-clause-reached
is_stray-requires-clause-reached c = rw c.deref.ensures.value c.in_ok-reached.ensures
