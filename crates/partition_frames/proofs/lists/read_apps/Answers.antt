use Rattle.std.proofs.Common.{List, ℕ, ◌∷◌, [], ◌++◌, ◌∙◌, ap, arith, length, length-append, sym, subst}
use Rattle.std.specs.Prelude.{flat_map}
use Rattle.std.specs.List.{AllByRecursion}
use Rattle.std.proofs.lemmas.Result.{err_from_is_err_and}
use Rattle.mx_base.specs.AppName.{IsAppName}
use Rattle.partition_frames.specs.Frame.{text_field}
use Rattle.partition_frames.proofs.Singles.{name_field_tells, some_name}
use Rattle.partition_frames.specs.Field.{together}
use Rattle.partition_frames.specs.Pieces.{SoMany}
use Rattle.partition_frames.proofs.Before.{before_list, by_fault}
use Rattle.partition_frames.proofs.Sequences.{one_more_read, one_more_fits}
use Rattle.partition_frames.proofs.lists.read_apps.Goals as goal

pub returns-in_err-app : goal.returns-in_err-app
returns-in_err-app c =
    let done = c.apps.apps.items in
    let inv = c.apps.invariant in
    let p = err_from_is_err_and c.from_residual.result c.from_residual.ensures.1 in
    rw (p.1, p.2)
    (by_fault text_field IsAppName c.apps.rest.now (flat_map text_field) (SoMany IsAppName c.args.count) c.args.text.now
    (λ left l. before_list text_field IsAppName name_field_tells (97 ∷ []) some_name done c.args.count inv.fits (omega (arith, inv.many, c.apps-test.true))
    c.args.text.now c.apps.rest.now left inv.cut l)
    c.in_err-app.field-0.0 c.in_err-app.ensures)

pub apps-preserved : goal.apps-preserved
apps-preserved c =
    let done = c.apps.apps.items in
    let inv = c.apps.invariant in
    let e = c.in_ok-push.ensures.items in
    record {
      many = omega (arith, ap length e, length-append done (c.in_ok-app.app ∷ []), inv.many);
      fits = subst (AllByRecursion IsAppName) (sym e) (one_more_fits IsAppName done c.in_ok-app.app inv.fits c.in_ok-app.ensures.0);
      cut = one_more_read text_field done c.in_ok-app.app c.args.text.now c.apps.rest.now c.in_ok-app.after.now inv.cut c.in_ok-app.ensures.1
          ∙ ap (λ (l : List (List ℕ)). together (flat_map text_field l) ++ c.in_ok-app.after.now) (sym e);
    }
