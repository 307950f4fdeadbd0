use Rattle.std.proofs.Common.{◌≡◌, ◌∙◌, Some, ap, ap₂, sym, subst, rules}
use Rattle.compile_model.specs.declared.outcome.Outcome.{Outcome}
use Rattle.staleness.specs.Matching.{same_rows}
use Rattle.kept_tree.specs.Reading.{IsKeptWith}
use Rattle.kept_tree.proofs.KeptLemmas.{listed, not_listed}
use Rattle.kept_tree.proofs.kept.kept_with.Goals as goal

pub returns-then-not-same_rows : goal.returns-then-not-same_rows
returns-then-not-same_rows c =
    let outputs : c.as_slice.result.now ≡ c.args.mark.outputs = search rules in
    let rows : c.as_slice-2.result.now ≡ c.in_ok-outcome.outcome.rows = search rules in
    let made = c.in_ok-outcome.ensures in
    not_listed c.args.mark.outputs c.in_ok-outcome.outcome.rows c.args.files (ap (λ (o : Outcome). o.rows) made)
    (ap₂ same_rows (sym outputs) (sym rows) ∙ sym c.same_rows.ensures ∙ c.if-not-same_rows.true)

pub returns : goal.returns
returns c =
    let outputs : c.as_slice.result.now ≡ c.args.mark.outputs = search rules in
    let rows : c.as_slice-2.result.now ≡ c.in_ok-outcome.outcome.rows = search rules in
    let copy : c.in_ok-clone.field-0 ≡ c.args.mark.text = search rules in
    subst (λ (o : Outcome). IsKeptWith c.args.mark c.args.files (Some (record { mark = c.args.mark; outcome = o }))) (sym c.in_ok-outcome-2.ensures)
    (listed c.args.mark c.args.files c.in_ok-outcome.outcome c.in_ok-clone.field-0 c.in_ok-outcome.ensures copy
    (ap₂ same_rows (sym outputs) (sym rows) ∙ sym c.same_rows.ensures ∙ c.if-not-same_rows.false))
