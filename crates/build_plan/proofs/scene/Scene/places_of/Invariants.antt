use Rattle.std.proofs.Common.{◌≡◌, take}
use Rattle.build_plan.specs.Jobs.{places_in}
use Rattle.build_plan.proofs.scene.Scene.places_of.Given as goal

abbrev pub invariant-loop-node : goal.invariant-loop-node
invariant-loop-node l = l.places ≡ places_in l.self.schedule.order (take l.node-index l.nodes)
