use Rattle.std.proofs.Common.{◌==◌}
use Rattle.std.proofs.lemmas.Result.{err_from_is_err_and}
use Rattle.partition_frames.specs.Frame.{IsHow, IsText, how_fields, list_fields, text_field}
use Rattle.partition_frames.specs.Pieces.{IsShortList, room}
use Rattle.partition_frames.proofs.Before.{by_fault}
use Rattle.partition_frames.proofs.Counted.{how_byte_lacks, words_lack}
use Rattle.partition_frames.proofs.lists.read_how.Goals as goal

pub returns-in_err-byte : goal.returns-in_err-byte
returns-in_err-byte c =
    let p = err_from_is_err_and c.from_residual.result c.from_residual.ensures.1 in
    rw (p.1, p.2) (how_byte_lacks c.args.text.now c.in_err-byte.field-0.0.left c.in_err-byte.ensures)

pub returns-in_err-words : goal.returns-in_err-words
returns-in_err-words c =
    let byte = c.in_ok-byte.byte in
    let read = c.in_ok-byte.ensures in
    let p = err_from_is_err_and c.from_residual-in_err-words.result c.from_residual-in_err-words.ensures.1 in
    rw (p.1, p.2)
    (by_fault (list_fields text_field) (IsShortList (room (byte == 2)) IsText) c.in_ok-byte.rest.now how_fields IsHow c.args.text.now
    (λ left l. words_lack byte c.args.text.now c.in_ok-byte.rest.now left read.0 read.1 l)
    c.in_err-words.field-0.0 c.in_err-words.ensures)
