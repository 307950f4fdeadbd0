use Rattle.std.proofs.Common.{List, ◌∷◌, [], ◌++◌, ◌∙◌, ap, arith, length, length-append, sym, subst}
use Rattle.std.specs.Prelude.{flat_map}
use Rattle.std.specs.List.{AllByRecursion}
use Rattle.std.proofs.lemmas.Result.{err_from_is_err_and}
use Rattle.partition_frames.specs.Frame.{IsVariable, variable_fields}
use Rattle.mx_base.specs.declared.variable.Variable.{Variable}
use Rattle.partition_frames.proofs.Counted.{some_variable, some_variable_is, variable_tells}
use Rattle.partition_frames.specs.Field.{together}
use Rattle.partition_frames.specs.Pieces.{SoMany}
use Rattle.partition_frames.proofs.Before.{before_list, by_fault}
use Rattle.partition_frames.proofs.Sequences.{one_more_read, one_more_fits}
use Rattle.partition_frames.proofs.lists.read_pairs.Goals as goal

pub returns-in_err-pair : goal.returns-in_err-pair
returns-in_err-pair c =
    let done = c.pairs.pairs.items in
    let inv = c.pairs.invariant in
    let p = err_from_is_err_and c.from_residual.result c.from_residual.ensures.1 in
    rw (p.1, p.2)
    (by_fault variable_fields IsVariable c.pairs.rest.now (flat_map variable_fields) (SoMany IsVariable c.args.count) c.args.text.now
    (λ left l. before_list variable_fields IsVariable variable_tells some_variable some_variable_is done c.args.count inv.fits (omega (arith, inv.many, c.pairs-test.true))
    c.args.text.now c.pairs.rest.now left inv.cut l)
    c.in_err-pair.field-0.0 c.in_err-pair.ensures)

pub pairs-preserved : goal.pairs-preserved
pairs-preserved c =
    let done = c.pairs.pairs.items in
    let inv = c.pairs.invariant in
    let e = c.in_ok-push.ensures.items in
    record {
      many = omega (arith, ap length e, length-append done (c.in_ok-pair.pair ∷ []), inv.many);
      fits = subst (AllByRecursion IsVariable) (sym e) (one_more_fits IsVariable done c.in_ok-pair.pair inv.fits c.in_ok-pair.ensures.0);
      cut = one_more_read variable_fields done c.in_ok-pair.pair c.args.text.now c.pairs.rest.now c.in_ok-pair.after.now inv.cut c.in_ok-pair.ensures.1
          ∙ ap (λ (l : List Variable). together (flat_map variable_fields l) ++ c.in_ok-pair.after.now) (sym e);
    }
