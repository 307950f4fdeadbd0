use Rattle.std.specs.Prelude.{codes}
use Rattle.std.proofs.Common.{false}
use Rattle.std.proofs.lemmas.Result.{err_from_is_err_and}
use Rattle.build_manifest.specs.Fields.{LinesFit}
use Rattle.build_manifest.specs.Mark.{IsMark, LineFits, MarkView, NeedFits, plain, source_lines}
use Rattle.build_manifest.specs.Text.{line_text, lines_text, mark_text, need_text}
use Rattle.build_manifest.proofs.MarkRead.{is_mark_of, mark_spelled, same_mark, stops_in_end, stops_in_needs, stops_in_options, stops_in_outputs, stops_in_sources, stops_in_text}
use Rattle.build_manifest.proofs.MarkStops.{in_tag}
use Rattle.build_manifest.proofs.RowStops.{stops_by}
use Rattle.build_manifest.proofs.parsing.read_front.Goals as goal

pub returns-in_err-is_second : goal.returns-in_err-is_second
returns-in_err-is_second c =
    let p = err_from_is_err_and c.from_residual.result c.from_residual.ensures.1 in
    rw (p.1, p.2) (in_tag c.args.text.now c.in_err-is_second.field-0.0.left c.in_err-is_second.ensures)

pub returns-in_err-options : goal.returns-in_err-options
returns-in_err-options c =
    let p = err_from_is_err_and c.from_residual-in_err-options.result c.from_residual-in_err-options.ensures.1 in
    rw (p.1, p.2)
    (stops_in_options c.in_ok-is_second.is_second c.args.text.now c.in_ok-is_second.rest.now c.in_ok-is_second.ensures
    c.in_err-options.field-0.0.left c.in_err-options.ensures)

pub returns-in_err-format : goal.returns-in_err-format
returns-in_err-format c =
    let tag = c.in_ok-is_second.is_second in
    let p = err_from_is_err_and c.from_residual-in_err-format.result c.from_residual-in_err-format.ensures.1 in
    rw (p.1, p.2)
    (stops_by (lines_text (codes "sources ") line_text) (LinesFit (LineFits tag)) c.in_ok-options.rest.now mark_text IsMark c.args.text.now
    (λ left s. stops_in_sources tag c.args.text.now c.in_ok-is_second.rest.now c.in_ok-is_second.ensures c.in_ok-options.options.now
    c.in_ok-options.rest.now c.in_ok-options.ensures.0 c.in_ok-options.ensures.1 left s)
    c.in_err-format.field-0.0 c.in_err-format.ensures)

pub returns-in_err-needs : goal.returns-in_err-needs
returns-in_err-needs c =
    let tag = c.in_ok-is_second.is_second in
    let lines = source_lines c.in_ok-format.format c.in_ok-format.sources in
    let p = err_from_is_err_and c.from_residual-in_err-needs.result c.from_residual-in_err-needs.ensures.1 in
    rw (p.1, p.2)
    (stops_by (lines_text (codes "needs ") need_text) (LinesFit NeedFits) c.in_ok-format.rest.now mark_text IsMark c.args.text.now
    (λ left s. stops_in_needs tag c.args.text.now c.in_ok-is_second.rest.now c.in_ok-is_second.ensures c.in_ok-options.options.now
    c.in_ok-options.rest.now c.in_ok-options.ensures.0 c.in_ok-options.ensures.1 lines c.in_ok-format.rest.now c.in_ok-format.ensures.0.lines
    c.in_ok-format.ensures.1 left s)
    c.in_err-needs.field-0.0 c.in_err-needs.ensures)

pub returns-in_err-outputs : goal.returns-in_err-outputs
returns-in_err-outputs c =
    let tag = c.in_ok-is_second.is_second in
    let lines = source_lines c.in_ok-format.format c.in_ok-format.sources in
    let p = err_from_is_err_and c.from_residual-in_err-outputs.result c.from_residual-in_err-outputs.ensures.1 in
    rw (p.1, p.2)
    (stops_by (lines_text (codes "outputs ") line_text) (LinesFit (LineFits false)) c.in_ok-needs.rest.now mark_text IsMark c.args.text.now
    (λ left s. stops_in_outputs tag c.args.text.now c.in_ok-is_second.rest.now c.in_ok-is_second.ensures c.in_ok-options.options.now
    c.in_ok-options.rest.now c.in_ok-options.ensures.0 c.in_ok-options.ensures.1 lines c.in_ok-format.rest.now c.in_ok-format.ensures.0.lines
    c.in_ok-format.ensures.1 c.in_ok-needs.needs.items c.in_ok-needs.rest.now c.in_ok-needs.ensures.0 c.in_ok-needs.ensures.1 left s)
    c.in_err-outputs.field-0.0 c.in_err-outputs.ensures)

pub returns-in_err-written : goal.returns-in_err-written
returns-in_err-written c =
    let tag = c.in_ok-is_second.is_second in
    let lines = source_lines c.in_ok-format.format c.in_ok-format.sources in
    let p = err_from_is_err_and c.from_residual-in_err-written.result c.from_residual-in_err-written.ensures.1 in
    rw (p.1, p.2)
    (stops_in_text tag c.args.text.now c.in_ok-is_second.rest.now c.in_ok-is_second.ensures c.in_ok-options.options.now c.in_ok-options.rest.now
    c.in_ok-options.ensures.0 c.in_ok-options.ensures.1 lines c.in_ok-format.rest.now c.in_ok-format.ensures.0.lines c.in_ok-format.ensures.1
    c.in_ok-needs.needs.items c.in_ok-needs.rest.now c.in_ok-needs.ensures.0 c.in_ok-needs.ensures.1 (plain c.in_ok-outputs.outputs)
    c.in_ok-outputs.rest.now c.in_ok-outputs.ensures.0 c.in_ok-outputs.ensures.1 c.in_err-written.field-0.0.left c.in_err-written.ensures)

pub returns-in_err-rest : goal.returns-in_err-rest
returns-in_err-rest c =
    let tag = c.in_ok-is_second.is_second in
    let lines = source_lines c.in_ok-format.format c.in_ok-format.sources in
    let p = err_from_is_err_and c.from_residual-in_err-rest.result c.from_residual-in_err-rest.ensures.1 in
    rw (p.1, p.2)
    (stops_in_end tag c.args.text.now c.in_ok-is_second.rest.now c.in_ok-is_second.ensures c.in_ok-options.options.now c.in_ok-options.rest.now
    c.in_ok-options.ensures.0 c.in_ok-options.ensures.1 lines c.in_ok-format.rest.now c.in_ok-format.ensures.0.lines c.in_ok-format.ensures.1
    c.in_ok-needs.needs.items c.in_ok-needs.rest.now c.in_ok-needs.ensures.0 c.in_ok-needs.ensures.1 (plain c.in_ok-outputs.outputs)
    c.in_ok-outputs.rest.now c.in_ok-outputs.ensures.0 c.in_ok-outputs.ensures.1 c.in_ok-written.written.now c.in_ok-written.rest.now
    c.in_err-rest.field-0.0.left c.in_ok-written.ensures.0 c.in_ok-written.ensures.1 c.in_err-rest.ensures)

pub returns : goal.returns
returns c =
    let tag = c.in_ok-is_second.is_second in
    let mark : MarkView = record {
      format = c.in_ok-format.format;
      options = c.in_ok-options.options.now;
      sources = c.in_ok-format.sources;
      needs = c.in_ok-needs.needs.items;
      outputs = c.in_ok-outputs.outputs;
      text = c.in_ok-written.written.now;
    } in
    let are = c.in_ok-format.ensures.0 in
    same_mark c.args.text.now c.in_ok-rest.rest.now mark.format mark.options c.in_ok-from_slice.field-0 mark.sources c.sources.inside.rows.items
    mark.needs c.from_vec.result mark.outputs c.outputs.inside.rows.items mark.text c.in_ok-from_slice-2.field-0 c.in_ok-from_slice.ensures
    c.sources.view_is c.from_vec.ensures c.outputs.view_is c.in_ok-from_slice-2.ensures (
      is_mark_of tag mark are c.in_ok-options.ensures.0 c.in_ok-needs.ensures.0 c.in_ok-outputs.ensures.0 c.in_ok-written.ensures.0,
      mark_spelled tag mark c.args.text.now c.in_ok-is_second.rest.now c.in_ok-options.rest.now c.in_ok-format.rest.now c.in_ok-needs.rest.now
          c.in_ok-outputs.rest.now c.in_ok-written.rest.now c.in_ok-rest.rest.now are.form c.in_ok-is_second.ensures c.in_ok-options.ensures.1
          c.in_ok-format.ensures.1 c.in_ok-needs.ensures.1 c.in_ok-outputs.ensures.1 c.in_ok-written.ensures.1 c.in_ok-rest.ensures,
    )
