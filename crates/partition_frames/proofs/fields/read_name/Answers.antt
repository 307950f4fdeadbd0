use Rattle.std.proofs.Common.{[], ◌∷◌}
use Rattle.mx_base.specs.AppName.{IsAppName}
use Rattle.partition_frames.proofs.Singles.{names_are_texts, no_text, other_text, some_name}
use Rattle.partition_frames.proofs.fields.read_name.Goals as goal

pub returns-in_default : goal.returns-in_default
returns-in_default c =
    rw c.stuck_at.ensures (no_text IsAppName names_are_texts (97 ∷ []) some_name c.args.text.now c.in_default.field-0.left c.in_default.ensures)

pub returns-in_default-2 : goal.returns-in_default-2
returns-in_default-2 c =
    let read = c.in-Ok.ensures in
    let none = rw c.in_default-2.is at c.in_ok-name.ensures.none in
    rw c.stuck_at-in_default-2.ensures
    (other_text IsAppName names_are_texts (97 ∷ []) some_name c.args.text.now c.in-Ok.bytes.now c.in-Ok.rest.now read.0 read.1 none)
