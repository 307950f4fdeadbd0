use Rattle.build_manifest.proofs.LineRows.{lines_are_rows}
use Rattle.build_manifest.proofs.parsing.read_sources.Goals as goal

pub from_vec-requires-2 : goal.from_vec-requires-2
from_vec-requires-2 c =
    let read = c.in_ok-sources.ensures.0 in
    lines_are_rows c.args.is_second c.in_ok-sources.sources.digests.items c.in_ok-sources.sources.rows.items read.0 read.1.1
