use Rattle.std.proofs.lemmas.Result.{err_from_is_err_and}
use Rattle.build_manifest.proofs.RowStops.{lead_digest_stops, lead_read, lead_space_stops}
use Rattle.build_manifest.proofs.digits.read_lead.Goals as goal

pub returns-in_err-rest : goal.returns-in_err-rest
returns-in_err-rest c =
    let p = err_from_is_err_and c.from_residual.result c.from_residual.ensures.1 in
    rw (p.1, p.2)
    (lead_space_stops c.in-Ok.read.0 c.args.text.now c.in-Ok.read.1.now c.in_err-rest.field-0.0.left c.in-Ok.ensures.0 c.in-Ok.ensures.1
    c.in_err-rest.ensures)

pub returns : goal.returns
returns c = (
  c.in-Ok.ensures.0,
  lead_read c.in-Ok.read.0 c.args.text.now c.in-Ok.read.1.now c.in_ok-rest.rest.now c.in-Ok.ensures.1 c.in_ok-rest.ensures,
)

pub returns-in-Err : goal.returns-in-Err
returns-in-Err c = lead_digest_stops c.args.text.now c.in-Err.stuck.left c.in-Err.ensures
