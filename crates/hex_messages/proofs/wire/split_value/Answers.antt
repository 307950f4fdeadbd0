use Rattle.std.proofs.lemmas.Result.{err_from_is_err_and}
use Rattle.hex_messages.specs.Faults.{varint, eight, size, four}
use Rattle.hex_messages.proofs.WireLemmas.{bytes_at, length_at}
use Rattle.hex_messages.proofs.wire.split_value.Goals as goal

pub returns-in_err-number-in-Varint-clause-refused : goal.returns-in_err-number-in-Varint-clause-refused
returns-in_err-number-in-Varint-clause-refused c =
    let p = err_from_is_err_and c.from_residual.result c.from_residual.ensures.1 in
    rw (p.1, p.2, c.in-Varint.is) (varint c.in_err-number-in-Varint.ensures.refused)

pub returns-in_err-bytes-in-Fixed64-clause-refused : goal.returns-in_err-bytes-in-Fixed64-clause-refused
returns-in_err-bytes-in-Fixed64-clause-refused c =
    let p = err_from_is_err_and c.from_residual-in_err-bytes-in-Fixed64.result c.from_residual-in_err-bytes-in-Fixed64.ensures.1 in
    rw (p.1, p.2, c.in-Fixed64.is, c.in_err-bytes-in-Fixed64.ensures.cause) (eight c.in_err-bytes-in-Fixed64.ensures.short)

pub returns-in_err-size-in-Length-clause-refused : goal.returns-in_err-size-in-Length-clause-refused
returns-in_err-size-in-Length-clause-refused c =
    let p = err_from_is_err_and c.from_residual-in_err-size-in-Length.result c.from_residual-in_err-size-in-Length.ensures.1 in
    rw (p.1, p.2, c.in-Length.is) (size c.in_err-size-in-Length.ensures.refused)

pub returns-in_err-bytes-in-Length-clause-refused : goal.returns-in_err-bytes-in-Length-clause-refused
returns-in_err-bytes-in-Length-clause-refused c =
    let p = err_from_is_err_and c.from_residual-in_err-bytes-in-Length.result c.from_residual-in_err-bytes-in-Length.ensures.1 in
    rw (p.1, p.2, c.in-Length.is, c.in_err-bytes-in-Length.ensures.cause)
    (bytes_at c.args.text.now c.in_ok-size-in-Length.after.now c.in_ok-size-in-Length.size c.in_ok-size-in-Length.ensures.read
    c.in_err-bytes-in-Length.ensures.short)

pub returns-in_err-bytes-in-Fixed32-clause-refused : goal.returns-in_err-bytes-in-Fixed32-clause-refused
returns-in_err-bytes-in-Fixed32-clause-refused c =
    let p = err_from_is_err_and c.from_residual-in_err-bytes-in-Fixed32.result c.from_residual-in_err-bytes-in-Fixed32.ensures.1 in
    rw (p.1, p.2, c.in-Fixed32.is, c.in_err-bytes-in-Fixed32.ensures.cause) (four c.in_err-bytes-in-Fixed32.ensures.short)

pub returns-in_ok-bytes-in-Length-clause-read : goal.returns-in_ok-bytes-in-Length-clause-read
returns-in_ok-bytes-in-Length-clause-read c =
    rw c.in-Length.is (length_at c.args.text.now c.in_ok-size-in-Length.after.now c.in_ok-bytes-in-Length.bytes.now c.in_ok-bytes-in-Length.rest.now
    c.in_ok-size-in-Length.size c.in_ok-size-in-Length.ensures.read c.in_ok-bytes-in-Length.ensures.front c.in_ok-bytes-in-Length.ensures.whole)
