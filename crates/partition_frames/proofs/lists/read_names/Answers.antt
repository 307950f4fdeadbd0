use Rattle.std.proofs.Common.{◌^◌, ◌∷◌, [], arith}
use Rattle.std.specs.Prelude.{flat_map}
use Rattle.std.proofs.lemmas.Result.{err_from_is_err_and}
use Rattle.mx_base.specs.AppName.{IsAppName}
use Rattle.partition_frames.specs.Frame.{IsList, list_fields, text_field}
use Rattle.partition_frames.proofs.Singles.{some_name}
use Rattle.partition_frames.specs.Pieces.{SoMany}
use Rattle.partition_frames.proofs.Before.{by_fault}
use Rattle.partition_frames.proofs.Counted.{count_lacks, list_read, values_lack}
use Rattle.partition_frames.proofs.lists.read_names.Goals as goal

pub returns-in_err-count : goal.returns-in_err-count
returns-in_err-count c =
    let p = err_from_is_err_and c.from_residual.result c.from_residual.ensures.1 in
    rw (p.1, p.2) (count_lacks text_field IsAppName (97 ∷ []) some_name c.args.text.now c.in_err-count.field-0.0.left c.in_err-count.ensures)

pub returns-in_err-apps : goal.returns-in_err-apps
returns-in_err-apps c =
    let n = c.in_ok-count.count in
    let read = c.in_ok-count.ensures in
    let p = err_from_is_err_and c.from_residual-in_err-apps.result c.from_residual-in_err-apps.ensures.1 in
    rw (p.1, p.2)
    (by_fault (flat_map text_field) (SoMany IsAppName n) c.in_ok-count.rest.now (list_fields text_field) (IsList IsAppName) c.args.text.now
    (λ left l. values_lack text_field IsAppName (2 ^ 32) (omega arith) c.args.text.now c.in_ok-count.rest.now n left read.0 read.1 l)
    c.in_err-apps.field-0.0 c.in_err-apps.ensures)

pub returns : goal.returns
returns c =
    let count = c.in_ok-count.ensures in
    let read = c.in_ok-apps.ensures in
    rw c.from_vec.ensures (
      (omega (arith, count.0, read.0.0), read.0.1),
      list_read text_field c.in_ok-apps.apps.items c.args.text.now c.in_ok-count.rest.now
          c.in_ok-apps.rest.now c.in_ok-count.count read.0.0 count.1 read.1,
    )
