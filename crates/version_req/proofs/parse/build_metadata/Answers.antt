use Rattle.version_req.proofs.Ascii.{build_utf8}
use Rattle.version_req.proofs.parse.build_metadata.Goals as goal

pub unreachable-requires : goal.unreachable-requires
unreachable-requires c = c.in-Err.ensures.cases.0 (build_utf8 c.args.text.now c.requires)
