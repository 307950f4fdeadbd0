use Rattle.std.proofs.Common.{◌≡◌, ◌++◌, drop}
use Rattle.hex_registry.specs.Reach.{links_of}
use Rattle.hex_registry.specs.Shelves.{without_apps}
use Rattle.hex_registry.proofs.reach.links_of.Given as goal

abbrev pub invariant-loop-demand : goal.invariant-loop-demand
invariant-loop-demand l =
    l.places ++ links_of l.pick (without_apps l.wants.pinned (drop l.demand-index l.demands)) ≡ links_of l.pick (without_apps l.wants.pinned l.demands)
