use Rattle.std.proofs.Common.{◌≡◌, ◌<◌, length, get_or, sym, subst, arith, Some}
use Rattle.std.specs.List.{position}
use Rattle.std.specs.Prelude.{nat_eq}
use Rattle.compile_model.specs.Planned.{most_jobs}
use Rattle.build_plan.specs.Scenes.{Scenery, StandsBefore}
use Rattle.build_plan.proofs.PostLemmas.{places_more, rank_small, standing_within}
use Rattle.build_plan.proofs.scene.Scene.places_of.Goals as goal

pub rank-requires : goal.rank-requires
rank-requires c =
    let nodes = c.args.nodes.now in
    let i = c.loop-node.node-index in
    let node = get_or nodes i 0 in
    let within : i < length nodes = omega arith in
    standing_within c.self.invariant most_jobs node (subst (λ (v : Scenery). StandsBefore v.schedule.order most_jobs node) (sym c.self.view_is) (c.requires i 0 within))

pub overflow_cast-rank : goal.overflow_cast-rank
overflow_cast-rank c =
    let nodes = c.args.nodes.now in
    let i = c.loop-node.node-index in
    let node = get_or nodes i 0 in
    let within : i < length nodes = omega arith in
    let is = subst (λ (v : Scenery). position (nat_eq node) v.schedule.order ≡ Some c.rank.result) c.self.view_is c.rank.ensures in
    let small = rank_small c.args.self.now.schedule.order node c.rank.result (c.requires i 0 within) is in
    omega (arith, small)

pub loop-node-preserved : goal.loop-node-preserved
loop-node-preserved c =
    let nodes = c.args.nodes.now in
    let i = c.loop-node.node-index in
    let node = get_or nodes i 0 in
    let within : i < length nodes = omega arith in
    let is = subst (λ (v : Scenery). position (nat_eq node) v.schedule.order ≡ Some c.rank.result) c.self.view_is c.rank.ensures in
    places_more c.args.self.now.schedule.order nodes i c.loop-node.places c.push.new.self c.rank.result within is c.in_ok-push.ensures.ok c.loop-node.invariant
