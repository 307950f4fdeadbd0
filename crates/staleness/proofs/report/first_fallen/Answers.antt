use Rattle.std.proofs.Common.{map, arith}
use Rattle.staleness.specs.Report.{digest_at}
use Rattle.staleness.proofs.NeedLemmas.{fallen_at, stands_next, further_need, no_more_needs}
use Rattle.staleness.proofs.report.first_fallen.Goals as goal

pub returns-then-not-stands : goal.returns-then-not-stands
returns-then-not-stands c =
    fallen_at c.args.job.now c.args.digests.now c.args.needs.now c.loop-at.at c.index-apps-at.result c.index-digests-places.result
    c.as_slice-apps.result.now c.as_slice-places.result.now c.stands.result c.as_slice-apps.ensures c.as_slice-places.ensures
    c.requires.named c.requires.before (omega arith) c.index-apps-at.is c.index-digests-places.is c.stands.ensures
    c.if-not-stands.true c.loop-at.invariant

pub loop-at-preserved : goal.loop-at-preserved
loop-at-preserved c =
    stands_next c.args.job.now c.args.digests.now c.args.needs.now c.loop-at.at c.index-apps-at.result c.index-digests-places.result
    c.as_slice-apps.result.now c.as_slice-places.result.now c.stands.result c.as_slice-apps.ensures c.as_slice-places.ensures
    c.requires.named c.requires.before (omega arith) c.index-apps-at.is c.index-digests-places.is c.stands.ensures
    c.if-not-stands.false c.loop-at.invariant

pub returns-in-Some : goal.returns-in-Some
returns-in-Some c =
    let found = c.in-Some.ensures.lookup.3 in
    further_need c.args.job.now (map (digest_at c.args.digests.now) c.args.job.now.needs) c.args.needs.now c.loop-at.at c.as_slice-apps.result.now
    c.in-Some.need.now
    c.as_slice-apps.ensures (omega arith) c.loop-at.invariant found.0 (found.1 c.in-Some.need.now)

pub returns-in-None : goal.returns-in-None
returns-in-None c =
    no_more_needs c.args.job.now (map (digest_at c.args.digests.now) c.args.job.now.needs) c.args.needs.now c.loop-at.at c.as_slice-apps.result.now
    c.as_slice-apps.ensures (omega arith) c.loop-at.invariant c.in-None.ensures.lookup.3
