use Rattle.std.proofs.Common.{◌≡◌, drop}
use Rattle.std.specs.List.{list_any}
use Rattle.hex_registry.specs.Picks.{demand_refuses}
use Rattle.hex_registry.specs.Shelves.{without_apps}
use Rattle.hex_registry.proofs.unmet.demands_refuse.Given as goal

abbrev pub invariant-loop-demand : goal.invariant-loop-demand
invariant-loop-demand l =
    list_any (demand_refuses l.wants.overridden l.name l.offer) (without_apps l.wants.pinned (drop l.demand-index l.demands)) ≡ list_any
    (demand_refuses l.wants.overridden l.name l.offer) (without_apps l.wants.pinned l.demands)
