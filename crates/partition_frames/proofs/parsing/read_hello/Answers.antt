use Rattle.std.proofs.lemmas.Result.{err_from_is_err_and}
use Rattle.partition_frames.proofs.Bodies.{hello_cookie_lacks, hello_index_lacks}
use Rattle.partition_frames.proofs.parsing.read_hello.Goals as goal

pub returns-in_err-cookie : goal.returns-in_err-cookie
returns-in_err-cookie c =
    let p = err_from_is_err_and c.from_residual.result c.from_residual.ensures.1 in
    rw (p.1, p.2)
    (hello_cookie_lacks c.args.text.now c.in_err-cookie.field-0.0.left c.in_err-cookie.ensures)

pub returns-in_err-index : goal.returns-in_err-index
returns-in_err-index c =
    let p = err_from_is_err_and c.from_residual-in_err-index.result c.from_residual-in_err-index.ensures.1 in
    rw (p.1, p.2)
    (hello_index_lacks c.in_ok-cookie.cookie.now c.args.text.now c.in_ok-cookie.rest.now c.in_err-index.field-0.0.left c.in_ok-cookie.ensures.0 c.in_ok-cookie.ensures.1 c.in_err-index.ensures)
