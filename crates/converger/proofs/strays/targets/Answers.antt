use Rattle.std.proofs.Common.{◌≡◌, ◌<◌, ℕ, List, Bool, [], length, ◌∙◌, arith}
use Rattle.std.specs.List.{list_any}
use Rattle.std.specs.BTreeSet.{contains_by}
use Rattle.std.specs.Ordering.{is_eq}
use Rattle.std.proofs.lemmas.Bool.{or_left, or_right}
use Rattle.std.proofs.lemmas.Result.{IfOk-weaker}
use Rattle.mx_base.specs.Order.{text_cmp}
use Rattle.converger.specs.Strays.{targets_of, AreNamed}
use Rattle.converger.proofs.EnvLemmas.{named_more, unnamed_more, named_all, unnamed_all}
use Rattle.converger.proofs.strays.targets.Goals as goal

pub loop-row-preserved : goal.loop-row-preserved
loop-row-preserved c =
    let rows = c.args.rows.now in
    let i = c.loop-row.row-index in
    let row = c.row-item.result in
    let within : i < length rows = omega arith in
    let old : List ℕ → Bool = λ target. contains_by (λ name. text_cmp target name.now) c.loop-row.names in
    let new : List ℕ → Bool = λ target. contains_by (λ name. text_cmp target name.now) c.add_names.new.names in
    record {
      named = named_more targets_of rows i row within c.row-item.is old new c.loop-row.invariant.named
          (λ target had. c.in_ok-add_names.ensures.names target ∙ or_left (old target) _ had)
          (λ target named. c.in_ok-add_names.ensures.names target ∙ or_right (old target) _ named);
      unnamed = unnamed_more targets_of rows i row within c.row-item.is [] c.loop-row.invariant.unnamed c.in_ok-add_names.ensures.not_empty;
    }

pub returns-clause-named : goal.returns-clause-named
returns-clause-named c =
    let rows = c.args.rows.now in
    let named : AreNamed targets_of rows (λ target. list_any (λ name. is_eq (text_cmp target name.now)) c.loop-row.names.keys) =
    named_all targets_of rows c.loop-row.row-index (omega arith) _ c.loop-row.invariant.named in
    IfOk-weaker c.listed.result _ _ (λ names is. rw (← is) at named) c.listed.ensures

pub returns-clause-unnamed : goal.returns-clause-unnamed
returns-clause-unnamed c = IfOk-weaker c.listed.result _ _ (λ names is. unnamed_all targets_of c.args.rows.now c.loop-row.row-index
    (omega arith) [] c.loop-row.invariant.unnamed) c.listed.ensures
