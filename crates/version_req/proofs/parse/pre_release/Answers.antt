use Rattle.version_req.proofs.Ascii.{pre_utf8}
use Rattle.version_req.proofs.parse.pre_release.Goals as goal

pub unreachable-requires : goal.unreachable-requires
unreachable-requires c = c.in-Err.ensures.cases.0 (pre_utf8 c.args.text.now c.requires)
