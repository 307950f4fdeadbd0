use Rattle.staleness.proofs.Reporting.{IsSoFar}
use Rattle.staleness.proofs.report.stale_report.Given as goal

abbrev pub invariant-loop-place : goal.invariant-loop-place
invariant-loop-place l = IsSoFar l.plan.jobs l.marks l.place l.report.items l.digests.items
