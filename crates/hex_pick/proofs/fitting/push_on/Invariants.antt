use Rattle.std.proofs.Common.{◌≡◌, ◌++◌, drop, map}
use Rattle.hex_registry.specs.Shelves.{without_apps}
use Rattle.hex_pick.specs.Fitting.{on_package}
use Rattle.hex_pick.proofs.fitting.push_on.Given as goal

abbrev pub invariant-loop-demand : goal.invariant-loop-demand
invariant-loop-demand l =
    map (λ demand. demand.now) l.asked.items ++ on_package l.name (without_apps l.wants.pinned (drop l.demand-index l.demands)) ≡
    map (λ demand. demand.now) l.fn.asked.items ++ on_package l.name (without_apps l.wants.pinned l.demands)
