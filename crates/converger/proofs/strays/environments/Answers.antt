use Rattle.std.proofs.Common.{◌≡◌, ◌<◌, ℕ, List, Bool, true, [], length, sym, ◌∙◌, arith, rules, is_none}
use Rattle.std.specs.Option.{is_some}
use Rattle.std.specs.List.{list_any}
use Rattle.std.specs.BTreeSet.{contains_by}
use Rattle.std.specs.Ordering.{is_eq}
use Rattle.std.proofs.lemmas.Bool.{both_ways, or_left, or_right}
use Rattle.std.proofs.lemmas.Result.{IfOk-weaker}
use Rattle.mx_base.specs.Order.{text_cmp}
use Rattle.converger.specs.Strays.{only_of, is_named, AreNamed}
use Rattle.converger.proofs.EnvLemmas.{named_more, unnamed_more, named_all, unnamed_all, only_named, nothing_named}
use Rattle.converger.proofs.strays.environments.Goals as goal
use Rattle.converger.proofs.strays.environments.Goals.{then-is_none+in_ok-add_names, else-is_none}

pub loop-row-preserved : goal.loop-row-preserved
loop-row-preserved c =
    let rows = c.args.rows.now in
    let i = c.loop-row.row-index in
    let row = c.row-item.result in
    let within : i < length rows = omega arith in
    let old : List ℕ → Bool = λ env. contains_by (λ name. text_cmp env name.now) c.loop-row.names in
    elim c.if-is_none.branch [
      | then-is_none+in_ok-add_names w ↦
          let root : is_none row.by ≡ true = search rules in
          let new : List ℕ → Bool = λ env. contains_by (λ name. text_cmp env name.now) w.add_names.new.names in
          rw w.names-is (record {
            named = named_more only_of rows i row within c.row-item.is old new c.loop-row.invariant.named
                (λ env had. w.in_ok-add_names.ensures.names env ∙ or_left (old env) _ had)
                (λ env named. w.in_ok-add_names.ensures.names env ∙ or_right (old env) _ (sym (only_named row root env) ∙ named));
            unnamed = unnamed_more only_of rows i row within c.row-item.is [] c.loop-row.invariant.unnamed
                (only_named row root [] ∙ w.in_ok-add_names.ensures.not_empty);
          })
      | else-is_none w ↦
          let some : is_some row.by ≡ true = search rules in
          rw w.names-is (record {
            named = named_more only_of rows i row within c.row-item.is old old c.loop-row.invariant.named (λ env had. had)
                (λ env named. absurd (both_ways (is_named (only_of row) env) (nothing_named row some env) named));
            unnamed = unnamed_more only_of rows i row within c.row-item.is [] c.loop-row.invariant.unnamed (nothing_named row some []);
          })
    ]

pub returns-clause-named : goal.returns-clause-named
returns-clause-named c =
    let rows = c.args.rows.now in
    let named : AreNamed only_of rows (λ env. list_any (λ name. is_eq (text_cmp env name.now)) c.loop-row.names.keys) =
    named_all only_of rows c.loop-row.row-index (omega arith) _ c.loop-row.invariant.named in
    IfOk-weaker c.listed.result _ _ (λ names is. rw (← is) at named) c.listed.ensures

pub returns-clause-unnamed : goal.returns-clause-unnamed
returns-clause-unnamed c = IfOk-weaker c.listed.result _ _ (λ names is. unnamed_all only_of c.args.rows.now c.loop-row.row-index
    (omega arith) [] c.loop-row.invariant.unnamed) c.listed.ensures
