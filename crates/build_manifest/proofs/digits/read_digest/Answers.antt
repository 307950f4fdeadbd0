use Rattle.std.proofs.Common.{take, arith}
use Rattle.std.proofs.Math.ListN.{length-set}
use Rattle.std.proofs.lemmas.List.{length-take}
use Rattle.std.proofs.lemmas.Result.{err_from_is_err_and}
use Rattle.build_manifest.proofs.DigestLemmas.{digest_stops, more_bytes, whole_digest}
use Rattle.build_manifest.proofs.digits.read_digest.Goals as goal

pub returns-in_err-byte : goal.returns-in_err-byte
returns-in_err-byte c =
    let p = err_from_is_err_and c.from_residual.result c.from_residual.ensures.1 in
    rw (p.1, p.2)
    (digest_stops c.args.text.now c.bytes.rest.now (take c.bytes.i c.bytes.bytes) c.in_err-byte.field-0.0.left
    (omega (arith, length-take c.bytes.i c.bytes.bytes, c.bytes-test.true)) c.bytes.invariant.1 c.bytes.invariant.2 c.in_err-byte.ensures)

pub bytes-preserved : goal.bytes-preserved
bytes-preserved c =
    let more = more_bytes c.args.text.now c.bytes.rest.now c.in_ok-byte.after.now c.bytes.bytes c.bytes.i c.in_ok-byte.byte
    (omega (arith, c.bytes.invariant.0, c.bytes-test.true)) c.bytes.invariant.1 c.bytes.invariant.2 c.in_ok-byte.ensures.0 c.in_ok-byte.ensures.1 in
    (omega (arith, length-set c.bytes.bytes c.bytes.i c.in_ok-byte.byte, c.bytes.invariant.0), more.0, more.1)

pub returns : goal.returns
returns c =
    whole_digest c.args.text.now c.bytes.rest.now c.bytes.bytes c.from_bytes.result c.bytes.i (omega arith) c.bytes.invariant.0 c.from_bytes.ensures
    c.bytes.invariant.1 c.bytes.invariant.2
