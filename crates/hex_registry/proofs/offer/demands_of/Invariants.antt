use Rattle.std.proofs.Common.{take}
use Rattle.hex_registry.specs.Offers.{AreDemands}
use Rattle.hex_registry.proofs.offer.demands_of.Given as goal

abbrev pub invariant-loop-dependency : goal.invariant-loop-dependency
invariant-loop-dependency l = AreDemands l.repository (take l.dependency-index l.dependency-items) l.demands
