use Rattle.std.proofs.Common.{◌≡◌, ℕ, List, Ok, Err, sym, subst}
use Rattle.std.proofs.lemmas.Result.{err_from_is_err_and}
use Rattle.dep_rows.specs.Listed.{Listed}
use Rattle.build_plan.specs.Needs.{graph_of}
use Rattle.build_plan.specs.Scenes.{IsScene}
use Rattle.build_plan.specs.Stages.{OrdersGraph, Schedules}
use Rattle.build_plan.specs.Stages.Schedules.{orders}
use Rattle.build_plan.proofs.SceneLemmas.{scene_is, scene_refused}
use Rattle.build_plan.proofs.scene.Scene.of.Goals as goal

pub returns-in_err-ordered-clause-answer : goal.returns-in_err-ordered-clause-answer
returns-in_err-ordered-clause-answer c =
    let listed = c.args.converged.now.rows in
    let places = c.in_ok-places.places.items in
    let error = c.in_err-ordered.field-0.0 in
    let p = err_from_is_err_and c.from_residual-in_err-ordered.result c.from_residual-in_err-ordered.ensures.1 in
    rw (p.1, p.2) (λ input.
    let around = subst (λ (ps : List ℕ). OrdersGraph c.rows-rows.result.now.rows c.args.target.now ps (Err error)) c.deref.ensures.value (c.in_err-ordered.ensures.answer input) in
    scene_refused c.args.settings.now listed.rows c.args.env.now c.args.target.now places error c.in_ok-places.ensures
    (subst (λ (l : Listed). OrdersGraph l.rows c.args.target.now places (Err error)) c.rows-rows.ensures around))

pub invariant_of-result : goal.invariant_of-result
invariant_of-result c =
    let places = c.in_ok-places.places.items in
    let ordered = c.in_ok-ordered.ordered in
    let seen = c.rows-rows.result.now in
    let listed = c.args.converged.now.rows in
    let graph = subst (λ (l : Listed). ordered.graph ≡ graph_of l.rows c.args.target.now places) c.rows-rows.ensures (subst (λ (ps : List ℕ). ordered.graph ≡ graph_of seen.rows c.args.target.now ps) c.deref.ensures.value c.in_ok-ordered.ensures.graph) in
    let order = subst (λ (l : Listed). OrdersGraph l.rows c.args.target.now places (Ok ordered.order)) c.rows-rows.ensures (subst (λ (ps : List ℕ). OrdersGraph seen.rows c.args.target.now ps (Ok ordered.order)) c.deref.ensures.value c.in_ok-ordered.ensures.answer) in
    subst (λ (l : Listed). IsScene l c.args.sites.now c.args.target.now places ordered) (sym c.rows-rows.ensures)
    (scene_is listed c.args.sites.now c.args.env.now c.args.target.now places ordered c.requires c.in_ok-places.ensures graph order)

pub returns-clause-answer : goal.returns-clause-answer
returns-clause-answer c =
    let settings = c.args.settings.now in
    let places = c.in_ok-places.places.items in
    let ordered = c.in_ok-ordered.ordered in
    let seen = c.rows-rows.result.now in
    let listed = c.args.converged.now.rows in
    let order = subst (λ (l : Listed). OrdersGraph l.rows c.args.target.now places (Ok ordered.order)) c.rows-rows.ensures (subst (λ (ps : List ℕ). OrdersGraph seen.rows c.args.target.now ps (Ok ordered.order)) c.deref.ensures.value c.in_ok-ordered.ensures.answer) in
    subst (λ (l : Listed). Schedules settings listed.rows c.args.env.now c.args.target.now (Ok (record { settings = settings; target = c.args.target.now; rows = l.rows; places = places; order = ordered.order }))) (sym c.rows-rows.ensures)
    (orders places ordered.order c.in_ok-places.ensures order)
