use Rattle.std.proofs.Common.{Option, Some, map, sym, subst}
use Rattle.build_manifest.specs.Mark.{MarkView}
use Rattle.staleness.specs.declared.why.Why.TheVariants.{NoMark}
use Rattle.staleness.specs.Report.{IsWhy, digest_at}
use Rattle.staleness.specs.Report.IsWhy.{no_mark}
use Rattle.staleness.proofs.report.why.Goals as goal

pub returns-in-None : goal.returns-in-None
returns-in-None c =
    subst (λ (mark : Option MarkView). IsWhy (map (digest_at c.args.digests.now) c.args.job.now.needs) c.args.job.now mark (Some NoMark)) (sym c.in-None.is)
    no_mark
