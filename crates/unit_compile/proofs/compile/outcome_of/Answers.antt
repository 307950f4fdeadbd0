use Rattle.std.proofs.Common.{◌≡◌, ◌<◌, ◌≤◌, ◌∙◌, Bool, ◌||◌, is_none, length, map, take, ap, subst, arith}
use Rattle.std.specs.Prelude.{IfOk}
use Rattle.compile_model.specs.declared.outcome.Outcome.{Outcome}
use Rattle.unit_compile.specs.Units.{with_face}
use Rattle.unit_compile.specs.Views.{needs_in, source_in}
use Rattle.unit_compile.proofs.ProductLemmas.{gave_all, gave_next, gave_none, gave_order}
use Rattle.unit_compile.proofs.compile.outcome_of.Goals as goal

pub loop-source-init : goal.loop-source-init
loop-source-init c =
    gave_none (needs_in c.args.needs.now) (map source_in c.args.sources.now) _ _ _ _ c.new-product.ensures.text c.new-product.ensures.faces c.new-product.ensures.failed c.new-units.ensures

pub loop-source-preserved : goal.loop-source-preserved
loop-source-preserved c =
    let less : c.loop-source.source-index < length c.args.sources.now = omega arith in
    let before = take c.loop-source.source-index (map source_in c.args.sources.now) in
    let gave = c.loop-source.invariant in
    let face = c.in_ok-face.ensures.face before gave.units in
    gave_next (needs_in c.args.needs.now) c.args.sources.now c.loop-source.source-index c.source-item.result _ _ _ _ _ _ _ _ less c.source-item.is gave
    (ap (λ v. v.items) c.add.ensures.text ∙ c.in_ok-face.ensures.text before gave.units)
    (c.in_ok-add.ensures.faces ∙ ap (with_face c.loop-source.product.faces.entries) face)
    (c.in_ok-add.ensures.failed ∙ ap (λ o. c.loop-source.product.failed || is_none o) face)
    (c.in_ok-note_unit.ensures before gave.units)

pub into_outcome-requires : goal.into_outcome-requires
into_outcome-requires c =
    let done : length c.args.sources.now ≤ c.loop-source.source-index = omega arith in
    gave_order (needs_in c.args.needs.now) c.args.sources.now c.loop-source.source-index _ _ _ _ done c.loop-source.invariant

pub returns : goal.returns
returns c =
    let done : length c.args.sources.now ≤ c.loop-source.source-index = omega arith in
    subst (λ (o : Outcome). IfOk c.into_outcome.result (λ outcome. outcome ≡ o)) (gave_all (needs_in c.args.needs.now) c.args.sources.now c.loop-source.source-index _ _ _ _ done c.loop-source.invariant) c.into_outcome.ensures
