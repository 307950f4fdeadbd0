use Rattle.std.proofs.Common.{List, ◌∷◌, [], ◌++◌, ◌∙◌, ap, arith, length, length-append, sym, subst}
use Rattle.std.specs.Prelude.{flat_map}
use Rattle.std.proofs.lemmas.Result.{err_from_is_err_and}
use Rattle.reading.specs.Field.{FitInTurn, ListFits}
use Rattle.build_manifest.specs.Mark.{Need, NeedFits}
use Rattle.build_manifest.specs.Text.{need_text}
use Rattle.build_manifest.proofs.NeedsSoFar.{needs_stop, one_need_more}
use Rattle.build_manifest.proofs.RowStops.{stops_by}
use Rattle.build_manifest.proofs.parsing.read_listed.Goals as goal

pub returns-in_err-need : goal.returns-in_err-need
returns-in_err-need c =
    let text = c.args.text.now in
    let needs = c.needs.needs.listed.items in
    let inv = c.needs.invariant in
    let p = err_from_is_err_and c.from_residual.result c.from_residual.ensures.1 in
    rw (p.1, p.2)
    (stops_by need_text (NeedFits needs) c.needs.rest.now (flat_map need_text) (ListFits NeedFits c.args.count []) text
    (λ left s. needs_stop needs c.args.count left text c.needs.rest.now c.requires (omega (arith, inv.many, c.needs-test.true)) inv.fits inv.cut s)
    c.in_err-need.field-0.0 c.in_err-need.ensures)

pub needs-preserved : goal.needs-preserved
needs-preserved c =
    let needs = c.needs.needs.listed.items in
    let inv = c.needs.invariant in
    let more = one_need_more needs c.in_ok-need.need c.args.text.now c.needs.rest.now c.in_ok-need.after.now inv.fits c.in_ok-need.ensures.0 inv.cut
    c.in_ok-need.ensures.1 in
    let e = c.in_ok-needs.ensures in
    record {
      many = omega (arith, ap length e, length-append needs (c.in_ok-need.need ∷ []), inv.many);
      fits = subst (FitInTurn NeedFits []) (sym e) more.0;
      cut = more.1 ∙ ap (λ (l : List Need). flat_map need_text l ++ c.in_ok-need.after.now) (sym e);
    }
