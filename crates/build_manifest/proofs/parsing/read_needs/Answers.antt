use Rattle.std.proofs.Common.{[]}
use Rattle.std.specs.Prelude.{codes, flat_map}
use Rattle.std.proofs.lemmas.Result.{err_from_is_err_and}
use Rattle.reading.specs.Field.{ListFits}
use Rattle.build_manifest.specs.Fields.{LinesFit}
use Rattle.build_manifest.specs.Mark.{NeedFits}
use Rattle.build_manifest.specs.Text.{lines_text, need_text}
use Rattle.build_manifest.proofs.CountedStops.{count_stops, lines_read, listed_stops, word_stops}
use Rattle.build_manifest.proofs.FreeNames.{needs_go_on}
use Rattle.build_manifest.proofs.RowStops.{stops_by}
use Rattle.build_manifest.proofs.parsing.read_needs.Goals as goal

pub returns-in_err-rest : goal.returns-in_err-rest
returns-in_err-rest c =
    let p = err_from_is_err_and c.from_residual.result c.from_residual.ensures.1 in
    rw (p.1, p.2) (word_stops (codes "needs ") need_text NeedFits c.args.text.now c.in_err-rest.field-0.0.left c.in_err-rest.ensures)

pub returns-in_err-count : goal.returns-in_err-count
returns-in_err-count c =
    let p = err_from_is_err_and c.from_residual-in_err-count.result c.from_residual-in_err-count.ensures.1 in
    rw (p.1, p.2)
    (count_stops (codes "needs ") need_text NeedFits needs_go_on c.args.text.now c.in_ok-rest.rest.now c.in_err-count.field-0.0.left
    c.in_ok-rest.ensures c.in_err-count.ensures)

pub returns-in_err-needs : goal.returns-in_err-needs
returns-in_err-needs c =
    let n = c.in_ok-count.count in
    let p = err_from_is_err_and c.from_residual-in_err-needs.result c.from_residual-in_err-needs.ensures.1 in
    rw (p.1, p.2)
    (stops_by (flat_map need_text) (ListFits NeedFits n []) c.in_ok-count.rest.now (lines_text (codes "needs ") need_text) (LinesFit NeedFits)
    c.args.text.now
    (λ left s. listed_stops (codes "needs ") need_text NeedFits c.args.text.now c.in_ok-rest.rest.now c.in_ok-count.rest.now n left c.in_ok-rest.ensures
    c.in_ok-count.ensures.0 c.in_ok-count.ensures.1 s)
    c.in_err-needs.field-0.0 c.in_err-needs.ensures)

pub returns : goal.returns
returns c =
    lines_read (codes "needs ") need_text NeedFits c.in_ok-needs.needs.items c.args.text.now c.in_ok-rest.rest.now c.in_ok-count.rest.now
    c.in_ok-needs.rest.now c.in_ok-count.count c.in_ok-rest.ensures c.in_ok-count.ensures.0 c.in_ok-count.ensures.1 c.in_ok-needs.ensures.0
    c.in_ok-needs.ensures.1
