use Rattle.std.proofs.Common.{◌≡◌, drop}
use Rattle.std.specs.List.{list_all}
use Rattle.hex_registry.specs.Shelves.{without_apps}
use Rattle.hex_pick.specs.Fitting.{takes_picked}
use Rattle.hex_pick.proofs.fitting.all_take.Given as goal

abbrev pub invariant-loop-demand : goal.invariant-loop-demand
invariant-loop-demand l =
    list_all (takes_picked l.registry l.wants l.pick) (without_apps l.wants.pinned (drop l.demand-index l.demands)) ≡
    list_all (takes_picked l.registry l.wants l.pick) (without_apps l.wants.pinned l.demands)
