use Rattle.std.proofs.Common.{◌≡◌, ◌++◌, sym, subst}
use Rattle.std.specs.Option.{option_copied}
use Rattle.std.proofs.lemmas.Result.{err_from_is_err_and}
use Rattle.mx_base.specs.declared.row.FileRow.{FileRow}
use Rattle.mx_base.specs.Listing.{row_text}
use Rattle.build_manifest.specs.Fields.{NextPath, NextRow, ended}
use Rattle.build_manifest.proofs.RowStops.{row_lead_stops, row_length_stops, row_path_stops, row_read, stops_by}
use Rattle.build_manifest.proofs.rows.read_row.Goals as goal

pub returns-in-Err : goal.returns-in-Err
returns-in-Err c = row_lead_stops (option_copied c.args.before) c.args.text.now c.in-Err.stuck.left c.requires c.in-Err.ensures

pub returns-in_err-length : goal.returns-in_err-length
returns-in_err-length c =
    let p = err_from_is_err_and c.from_residual.result c.from_residual.ensures.1 in
    rw (p.1, p.2)
    (row_length_stops (option_copied c.args.before) c.in-Ok.read.0 c.args.text.now c.in-Ok.read.1.now c.in_err-length.field-0.0.left
    c.requires c.in-Ok.ensures.0 c.in-Ok.ensures.1 c.in_err-length.ensures)

pub returns-in_err-path : goal.returns-in_err-path
returns-in_err-path c =
    let before = option_copied c.args.before in
    let p = err_from_is_err_and c.from_residual-in_err-path.result c.from_residual-in_err-path.ensures.1 in
    rw (p.1, p.2)
    (stops_by ended (NextPath before) c.in_ok-length.rest.now row_text (NextRow before) c.args.text.now
    (λ left s. row_path_stops before c.in-Ok.read.0 c.args.text.now c.in-Ok.read.1.now c.in_ok-length.rest.now c.in_ok-length.length left
    c.in-Ok.ensures.0 c.in-Ok.ensures.1 c.in_ok-length.ensures.0 c.in_ok-length.ensures.1 s)
    c.in_err-path.field-0.0 c.in_err-path.ensures)

pub returns : goal.returns
returns c =
    let before = option_copied c.args.before in
    let next = c.in_ok-path.ensures.0 in
    subst (λ (row : FileRow). NextRow before row × (c.args.text.now ≡ row_text row ++ c.in_ok-path.rest.now)) (sym c.new.ensures.row) (
      record {
        sound = record { path = next.proper; utf8 = next.utf8; length = c.in_ok-length.ensures.0; digest = c.in-Ok.ensures.0 };
        order = next.order;
      },
      row_read c.in-Ok.read.0 c.args.text.now c.in-Ok.read.1.now c.in_ok-length.rest.now c.in_ok-path.path c.in_ok-path.rest.now
          c.in_ok-length.length c.in-Ok.ensures.1 c.in_ok-length.ensures.1 c.in_ok-path.ensures.1,
    )
