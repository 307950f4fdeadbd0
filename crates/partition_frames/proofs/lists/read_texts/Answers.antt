use Rattle.std.proofs.Common.{List, ℕ, ◌∷◌, [], ◌++◌, ◌∙◌, ap, arith, length, length-append, sym, subst}
use Rattle.std.specs.Prelude.{flat_map}
use Rattle.std.specs.List.{AllByRecursion}
use Rattle.std.proofs.lemmas.Result.{err_from_is_err_and}
use Rattle.partition_frames.specs.Frame.{IsText, text_field}
use Rattle.partition_frames.proofs.Singles.{text_field_tells}
use Rattle.partition_frames.specs.Field.{together}
use Rattle.partition_frames.proofs.Before.{before_list}
use Rattle.partition_frames.proofs.Sequences.{one_more_read, one_more_fits}
use Rattle.partition_frames.proofs.lists.read_texts.Goals as goal

pub returns-in_err-bytes : goal.returns-in_err-bytes
returns-in_err-bytes c =
    let done = c.texts.texts.items in
    let inv = c.texts.invariant in
    let p = err_from_is_err_and c.from_residual.result c.from_residual.ensures.1 in
    rw (p.1, p.2)
    (before_list text_field IsText text_field_tells [] (omega arith) done c.args.count inv.fits (omega (arith, inv.many, c.texts-test.true))
    c.args.text.now c.texts.rest.now c.in_err-bytes.field-0.0.left inv.cut c.in_err-bytes.ensures)

pub texts-preserved : goal.texts-preserved
texts-preserved c =
    let done = c.texts.texts.items in
    let inv = c.texts.invariant in
    let bytes = c.in_ok-bytes.bytes.now in
    let e = c.in_ok-push.ensures.items ∙ ap (λ (t : List ℕ). done ++ t ∷ []) c.in_ok-copy.ensures in
    record {
      many = omega (arith, ap length e, length-append done (bytes ∷ []), inv.many);
      fits = subst (AllByRecursion IsText) (sym e) (one_more_fits IsText done bytes inv.fits c.in_ok-bytes.ensures.0);
      cut = one_more_read text_field done bytes c.args.text.now c.texts.rest.now c.in_ok-bytes.after.now inv.cut c.in_ok-bytes.ensures.1
          ∙ ap (λ (l : List (List ℕ)). together (flat_map text_field l) ++ c.in_ok-bytes.after.now) (sym e);
    }
