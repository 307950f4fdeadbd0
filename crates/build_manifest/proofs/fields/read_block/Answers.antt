use Rattle.std.proofs.Common.{arith}
use Rattle.std.proofs.lemmas.Result.{err_from_is_err_and}
use Rattle.build_manifest.proofs.Blocks.{block_read, bytes_stops, count_stops, end_stops, word_stops}
use Rattle.build_manifest.proofs.fields.read_block.Goals as goal

pub returns-in_err-rest : goal.returns-in_err-rest
returns-in_err-rest c =
    let p = err_from_is_err_and c.from_residual.result c.from_residual.ensures.1 in
    rw (p.1, p.2) (word_stops c.args.word.now c.args.text.now c.in_err-rest.field-0.0.left c.in_err-rest.ensures)

pub returns-in_err-count : goal.returns-in_err-count
returns-in_err-count c =
    let p = err_from_is_err_and c.from_residual-in_err-count.result c.from_residual-in_err-count.ensures.1 in
    rw (p.1, p.2)
    (count_stops c.args.word.now c.args.text.now c.in_ok-rest.rest.now c.in_err-count.field-0.0.left c.in_ok-rest.ensures c.in_err-count.ensures)

pub returns-in_err-bytes : goal.returns-in_err-bytes
returns-in_err-bytes c =
    let p = err_from_is_err_and c.from_residual-in_err-bytes.result c.from_residual-in_err-bytes.ensures.1 in
    rw (p.1, p.2)
    (bytes_stops c.args.word.now c.args.text.now c.in_ok-rest.rest.now c.in_ok-count.rest.now c.in_ok-count.count c.in_err-bytes.field-0.0.left
    c.in_ok-rest.ensures c.in_ok-count.ensures.0 c.in_ok-count.ensures.1 c.in_err-bytes.ensures)

pub returns-in_err-rest-2 : goal.returns-in_err-rest-2
returns-in_err-rest-2 c =
    let p = err_from_is_err_and c.from_residual-in_err-rest-2.result c.from_residual-in_err-rest-2.ensures.1 in
    rw (p.1, p.2)
    (end_stops c.args.word.now c.args.text.now c.in_ok-rest.rest.now c.in_ok-count.rest.now c.in_ok-bytes.bytes.now c.in_ok-bytes.rest.now
    c.in_ok-count.count c.in_err-rest-2.field-0.0.left c.in_ok-rest.ensures c.in_ok-count.ensures.0 c.in_ok-count.ensures.1
    c.in_ok-bytes.ensures.0 c.in_ok-bytes.ensures.1 c.in_err-rest-2.ensures)

pub returns : goal.returns
returns c = (
  omega (arith, c.in_ok-count.ensures.0, c.in_ok-bytes.ensures.0),
  block_read c.args.word.now c.args.text.now c.in_ok-rest.rest.now c.in_ok-count.rest.now c.in_ok-bytes.bytes.now c.in_ok-bytes.rest.now
      c.in_ok-rest-2.rest.now c.in_ok-count.count c.in_ok-rest.ensures c.in_ok-count.ensures.1 c.in_ok-bytes.ensures.0 c.in_ok-bytes.ensures.1
      c.in_ok-rest-2.ensures,
)
