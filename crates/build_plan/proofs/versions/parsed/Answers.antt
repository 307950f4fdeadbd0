use Rattle.build_plan.proofs.VersionLemmas.{not_version}
use Rattle.build_plan.proofs.versions.parsed.Goals as goal

pub unreachable-requires : goal.unreachable-requires
unreachable-requires c = not_version c.args.text.now c.in_default.ensures.cases.0 c.requires
