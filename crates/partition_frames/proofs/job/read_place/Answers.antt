use Rattle.std.proofs.lemmas.Result.{err_from_is_err_and}
use Rattle.mx_base.specs.AppName.{IsAppName}
use Rattle.partition_frames.specs.Frame.{IsFolder, IsList, list_fields, text_field}
use Rattle.partition_frames.specs.Pieces.{IsPlaceOf, place_of}
use Rattle.partition_frames.proofs.Before.{by_fault}
use Rattle.partition_frames.proofs.Bodies.{place_dir_lacks, place_needs_lack}
use Rattle.partition_frames.proofs.job.read_place.Goals as goal

pub returns-in_err-dir : goal.returns-in_err-dir
returns-in_err-dir c =
    let p = err_from_is_err_and c.from_residual.result c.from_residual.ensures.1 in
    rw (p.1, p.2)
    (by_fault text_field IsFolder c.args.text.now place_of IsPlaceOf c.args.text.now
    (λ left l. place_dir_lacks c.args.text.now left l)
    c.in_err-dir.field-0.0 c.in_err-dir.ensures)

pub returns-in_err-needs : goal.returns-in_err-needs
returns-in_err-needs c =
    let p = err_from_is_err_and c.from_residual-in_err-needs.result c.from_residual-in_err-needs.ensures.1 in
    rw (p.1, p.2)
    (by_fault (list_fields text_field) (IsList IsAppName) c.in_ok-dir.rest.now place_of IsPlaceOf c.args.text.now
    (λ left l. place_needs_lack c.in_ok-dir.dir c.args.text.now c.in_ok-dir.rest.now left c.in_ok-dir.ensures.0 c.in_ok-dir.ensures.1 l)
    c.in_err-needs.field-0.0 c.in_err-needs.ensures)
