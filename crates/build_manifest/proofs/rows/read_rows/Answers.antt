use Rattle.std.proofs.Common.{[]}
use Rattle.std.specs.Prelude.{flat_map}
use Rattle.std.proofs.lemmas.Result.{err_from_is_err_and}
use Rattle.reading.specs.Field.{ListFits}
use Rattle.build_manifest.specs.Fields.{LinesFit}
use Rattle.build_manifest.specs.Lines.{lines_of}
use Rattle.build_manifest.specs.Mark.{LineFits}
use Rattle.build_manifest.specs.Text.{line_text, lines_text}
use Rattle.build_manifest.proofs.CountedStops.{count_stops, lines_read, listed_stops, word_stops}
use Rattle.build_manifest.proofs.LineStops.{lines_go_on}
use Rattle.build_manifest.proofs.RowStops.{stops_by}
use Rattle.build_manifest.proofs.rows.read_rows.Goals as goal

pub returns-in_err-rest : goal.returns-in_err-rest
returns-in_err-rest c =
    let p = err_from_is_err_and c.from_residual.result c.from_residual.ensures.1 in
    rw (p.1, p.2)
    (word_stops c.args.word.now line_text (LineFits c.args.with_digests) c.args.text.now c.in_err-rest.field-0.0.left c.in_err-rest.ensures)

pub returns-in_err-count : goal.returns-in_err-count
returns-in_err-count c =
    let p = err_from_is_err_and c.from_residual-in_err-count.result c.from_residual-in_err-count.ensures.1 in
    rw (p.1, p.2)
    (count_stops c.args.word.now line_text (LineFits c.args.with_digests) (λ total _. lines_go_on c.args.with_digests total) c.args.text.now
    c.in_ok-rest.rest.now c.in_err-count.field-0.0.left c.in_ok-rest.ensures c.in_err-count.ensures)

pub returns-in_err-rows : goal.returns-in_err-rows
returns-in_err-rows c =
    let fits = LineFits c.args.with_digests in
    let n = c.in_ok-count.count in
    let p = err_from_is_err_and c.from_residual-in_err-rows.result c.from_residual-in_err-rows.ensures.1 in
    rw (p.1, p.2)
    (stops_by (flat_map line_text) (ListFits fits n []) c.in_ok-count.rest.now (lines_text c.args.word.now line_text) (LinesFit fits) c.args.text.now
    (λ left s. listed_stops c.args.word.now line_text fits c.args.text.now c.in_ok-rest.rest.now c.in_ok-count.rest.now n left c.in_ok-rest.ensures
    c.in_ok-count.ensures.0 c.in_ok-count.ensures.1 s)
    c.in_err-rows.field-0.0 c.in_err-rows.ensures)

pub returns : goal.returns
returns c =
    let rows = c.in_ok-rows.rows in
    let are = c.in_ok-rows.ensures.0 in
    let read = lines_read c.args.word.now line_text (LineFits c.args.with_digests) (lines_of c.args.with_digests rows.digests.items rows.rows.items)
    c.args.text.now c.in_ok-rest.rest.now c.in_ok-count.rest.now c.in_ok-rows.rest.now c.in_ok-count.count c.in_ok-rest.ensures c.in_ok-count.ensures.0
    c.in_ok-count.ensures.1 are.1 c.in_ok-rows.ensures.1 in
    ((are.0, read.0), read.1)
