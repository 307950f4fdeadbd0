use Rattle.std.proofs.Common.{◌≡◌, take}
use Rattle.build_plan.specs.Needs.{apps_of}
use Rattle.build_plan.proofs.needs.apps_of.Given as goal

abbrev pub invariant-loop-node : goal.invariant-loop-node
invariant-loop-node l = l.apps ≡ apps_of l.rows l.places (take l.node-index l.nodes)
