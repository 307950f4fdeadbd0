use Rattle.std.proofs.Common.{◌<◌, ℕ, map}
use Rattle.staleness.specs.Report.{StandsAt, digest_at}
use Rattle.staleness.proofs.report.first_fallen.Given as goal

abbrev pub invariant-loop-at : goal.invariant-loop-at
invariant-loop-at l = (index : ℕ) → index < l.at → StandsAt l.job.need_apps (map (digest_at l.digests) l.job.needs) l.needs index
