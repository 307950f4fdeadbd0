use Rattle.std.proofs.lemmas.Result.{err_from_is_err_and}
use Rattle.build_manifest.specs.Fields.{ended}
use Rattle.build_manifest.specs.Mark.{NeedFits}
use Rattle.build_manifest.specs.Names.{IsFreeName}
use Rattle.build_manifest.specs.Text.{need_text}
use Rattle.build_manifest.proofs.FreeNames.{some_free}
use Rattle.build_manifest.proofs.NameStops.{need_lead_stops, need_name_stops}
use Rattle.build_manifest.proofs.RowStops.{stops_by}
use Rattle.build_manifest.proofs.needs.read_need.Goals as goal

pub returns-in-Err : goal.returns-in-Err
returns-in-Err c =
    let listed = c.args.needs.now.listed.items in
    need_lead_stops listed c.args.text.now c.in-Err.stuck.left (some_free listed c.requires.few) c.in-Err.ensures

pub returns-in_err-app : goal.returns-in_err-app
returns-in_err-app c =
    let listed = c.args.needs.now.listed.items in
    let p = err_from_is_err_and c.from_residual.result c.from_residual.ensures.1 in
    rw (p.1, p.2)
    (stops_by ended (IsFreeName listed) c.in-Ok.read.1.now need_text (NeedFits listed) c.args.text.now
    (λ left s. need_name_stops listed c.in-Ok.read.0 c.args.text.now c.in-Ok.read.1.now left c.in-Ok.ensures.0 c.in-Ok.ensures.1 s)
    c.in_err-app.field-0.0 c.in_err-app.ensures)
