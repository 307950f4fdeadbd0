use Rattle.std.proofs.lemmas.Result.{err_from_is_err_and}
use Rattle.build_manifest.proofs.TagStops.{tag_form_stops, tag_read, tag_word_stops}
use Rattle.build_manifest.proofs.parsing.read_format.Goals as goal

pub returns-in_err-rest : goal.returns-in_err-rest
returns-in_err-rest c =
    let p = err_from_is_err_and c.from_residual.result c.from_residual.ensures.1 in
    rw (p.1, p.2) (tag_word_stops c.args.text.now c.in_err-rest.field-0.0.left c.in_err-rest.ensures)

pub returns-in_err-is_second : goal.returns-in_err-is_second
returns-in_err-is_second c =
    let p = err_from_is_err_and c.from_residual-in_err-is_second.result c.from_residual-in_err-is_second.ensures.1 in
    rw (p.1, p.2)
    (tag_form_stops c.args.text.now c.in_ok-rest.rest.now c.in_err-is_second.field-0.0.left c.in_ok-rest.ensures c.in_err-is_second.ensures)

pub returns : goal.returns
returns c =
    tag_read c.in_ok-is_second.is_second c.args.text.now c.in_ok-rest.rest.now c.in_ok-is_second.rest.now c.in_ok-rest.ensures c.in_ok-is_second.ensures
