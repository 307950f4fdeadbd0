use Rattle.std.specs.Option.{option_copied}
use Rattle.std.proofs.lemmas.Result.{err_from_is_err_and}
use Rattle.mx_base.specs.Listing.{row_text}
use Rattle.build_manifest.specs.Fields.{NextLine, NextRow}
use Rattle.build_manifest.specs.Text.{line_text}
use Rattle.build_manifest.proofs.LineStops.{line_lead_stops, line_read, line_row_stops}
use Rattle.build_manifest.proofs.RowStops.{stops_by}
use Rattle.build_manifest.proofs.rows.read_line.Goals as goal

pub returns-in-Err : goal.returns-in-Err
returns-in-Err c =
    line_lead_stops c.args.with_digests (option_copied c.args.before) c.args.text.now c.in-Err.stuck.left c.requires c.in-Err.ensures

pub returns-in_err-row : goal.returns-in_err-row
returns-in_err-row c =
    let before = option_copied c.args.before in
    let leads = c.args.with_digests in
    let p = err_from_is_err_and c.from_residual.result c.from_residual.ensures.1 in
    rw (p.1, p.2)
    (stops_by row_text (NextRow before) c.in-Ok.read.1.now line_text (NextLine leads before) c.args.text.now
    (λ left s. line_row_stops leads before c.in-Ok.read.0 c.args.text.now c.in-Ok.read.1.now left c.in-Ok.ensures.0
    c.in-Ok.ensures.1 s) c.in_err-row.field-0.0 c.in_err-row.ensures)

pub returns : goal.returns
returns c = (
  record { lead = c.in-Ok.ensures.0; row = c.in_ok-row.ensures.0 },
  line_read c.in-Ok.read.0 c.in_ok-row.row c.args.text.now c.in-Ok.read.1.now c.in_ok-row.rest.now c.in-Ok.ensures.1
      c.in_ok-row.ensures.1,
)
