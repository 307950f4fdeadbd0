use Rattle.build_manifest.proofs.LineStops.{lead_part_stops}
use Rattle.build_manifest.proofs.rows.read_lead_of.Goals as goal

pub returns-in-Err : goal.returns-in-Err
returns-in-Err c = lead_part_stops c.args.with_digests c.args.text.now c.in-Err.stuck.left c.if-not-with_digests.false c.in-Err.ensures
