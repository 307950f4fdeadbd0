use Rattle.std.proofs.Common.{false}
use Rattle.build_manifest.proofs.LineRows.{lines_are_rows}
use Rattle.build_manifest.proofs.parsing.read_outputs.Goals as goal

pub from_vec-requires : goal.from_vec-requires
from_vec-requires c =
    let read = c.in_ok-outputs.ensures.0 in
    lines_are_rows false c.in_ok-outputs.outputs.digests.items c.in_ok-outputs.outputs.rows.items read.0 read.1.1
