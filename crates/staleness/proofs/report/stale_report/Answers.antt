use Rattle.std.proofs.Common.{◌≡◌, length, ap, ◌∙◌, arith, rules}
use Rattle.staleness.proofs.Reporting.{needs_before, place_more, whole_at}
use Rattle.staleness.proofs.report.stale_report.Goals as goal

pub why-requires-clause-before : goal.why-requires-clause-before
why-requires-clause-before c =
    needs_before c.args.plan.now.jobs c.as_slice-job-items.result.now c.loop-place.place (length c.as_slice.result.now) c.job-item.result
    c.requires.planned c.as_slice-job-items.ensures (omega arith) c.job-item.is (ap length c.as_slice.ensures.value ∙ c.loop-place.invariant.long)

pub loop-place-preserved : goal.loop-place-preserved
loop-place-preserved c =
    place_more c.args.plan.now.jobs c.as_slice-job-items.result.now c.args.marks.now c.loop-place.place c.loop-place.report.items c.list.new.report.items
    c.loop-place.digests.items c.as_slice.result.now c.push.new.self.items c.in_ok-digest.digest c.job-item.result c.index-marks-place.result
    c.in_ok-reason.reason
    c.requires.planned c.as_slice-job-items.ensures c.requires.each c.loop-place.invariant (omega arith) c.job-item.is c.index-marks-place.is
    c.as_slice.ensures.value c.in_ok-reason.ensures c.in_ok-digest.ensures c.in_ok-list.ensures (search rules)

pub returns : goal.returns
returns c =
    let same : length c.as_slice-job-items.result.now ≡ length c.args.plan.now.jobs = ap length c.as_slice-job-items.ensures in
    whole_at c.args.plan.now.jobs c.args.marks.now c.loop-place.place c.loop-place.report.items c.loop-place.digests.items c.requires.each (omega arith)
    c.loop-place.invariant
