use Rattle.std.proofs.Common.{arith}
use Rattle.build_manifest.proofs.LineStops.{last_is}
use Rattle.build_manifest.proofs.rows.last_path.Goals as goal

pub returns-in-len1-up : goal.returns-in-len1-up
returns-in-len1-up c = last_is c.args.rows.now c.last-item.result (omega arith) c.last-item.is
