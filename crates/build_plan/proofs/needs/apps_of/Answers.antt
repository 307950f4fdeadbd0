use Rattle.std.proofs.Common.{◌<◌, length, arith}
use Rattle.build_plan.proofs.NeedLemmas.{apps_more}
use Rattle.build_plan.proofs.needs.apps_of.Goals as goal

pub loop-node-preserved : goal.loop-node-preserved
loop-node-preserved c =
    let within : c.loop-node.node-index < length c.args.nodes.now = omega arith in
    apps_more c.args.rows.now c.args.places.now c.args.nodes.now c.loop-node.node-index c.loop-node.apps c.add_app.new.apps within c.loop-node.invariant c.in_ok-add_app.ensures
