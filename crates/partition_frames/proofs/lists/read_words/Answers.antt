use Rattle.std.proofs.Common.{◌<◌, [], arith}
use Rattle.std.specs.Prelude.{flat_map}
use Rattle.std.proofs.lemmas.Result.{err_from_is_err_and}
use Rattle.partition_frames.specs.Frame.{IsText, list_fields, text_field}
use Rattle.partition_frames.specs.Pieces.{IsShortList, SoMany, room}
use Rattle.partition_frames.proofs.Before.{by_fault}
use Rattle.partition_frames.proofs.Counted.{great_count, list_read, no_count, room_small, room_some, values_lack}
use Rattle.partition_frames.proofs.lists.read_words.Goals as goal

pub returns-in_default : goal.returns-in_default
returns-in_default c =
    let may = c.args.may_have in
    rw c.stuck_at.ensures
    (no_count text_field IsText [] (omega arith) (room may) (room_some may) (room_small may) c.args.text.now c.in_default.field-0.left c.in_default.ensures)

pub returns-then-from-room : goal.returns-then-from-room
returns-then-from-room c =
    let may = c.args.may_have in
    let read = c.in-Ok.ensures in
    rw c.stuck_at-then-from-room.ensures
    (great_count text_field IsText [] (omega arith) (room may) (room_some may) (room_small may) c.args.text.now c.in-Ok.rest.now c.in-Ok.count
    read.0 read.1 (omega (arith, c.room.ensures, c.from.ensures, c.if-from-room.true)))

pub returns-in_err-words : goal.returns-in_err-words
returns-in_err-words c =
    let may = c.args.may_have in
    let n = c.in-Ok.count in
    let read = c.in-Ok.ensures in
    let below : n < room may = omega (arith, c.room.ensures, c.from.ensures, c.if-from-room.false) in
    let p = err_from_is_err_and c.from_residual.result c.from_residual.ensures.1 in
    rw (p.1, p.2)
    (by_fault (flat_map text_field) (SoMany IsText n) c.in-Ok.rest.now (list_fields text_field) (IsShortList (room may) IsText) c.args.text.now
    (λ left l. values_lack text_field IsText (room may) (room_small may) c.args.text.now c.in-Ok.rest.now n left below read.1 l)
    c.in_err-words.field-0.0 c.in_err-words.ensures)

pub returns : goal.returns
returns c =
    let read = c.in_ok-words.ensures in
    let below : c.in-Ok.count < room c.args.may_have = omega (arith, c.room.ensures, c.from.ensures, c.if-from-room.false) in
    rw c.from_vec.ensures (
      (omega (arith, below, read.0.0), read.0.1),
      list_read text_field c.in_ok-words.words.items c.args.text.now c.in-Ok.rest.now c.in_ok-words.rest.now c.in-Ok.count read.0.0
          c.in-Ok.ensures.1 read.1,
    )
