use Rattle.partition_frames.proofs.Singles.{no_number, text_lacks}
use Rattle.partition_frames.proofs.fields.read_text.Goals as goal

pub returns-in_default : goal.returns-in_default
returns-in_default c =
    rw c.stuck_at.ensures (no_number c.args.text.now c.in_default.field-0.left c.in_default.ensures)

pub returns-then-rest-count : goal.returns-then-rest-count
returns-then-rest-count c =
    let read = c.in-Ok.ensures in
    rw c.stuck_at-then-rest-count.ensures (text_lacks c.args.text.now c.in-Ok.rest.now c.in-Ok.count read.0 read.1 c.if-rest-count.true)
