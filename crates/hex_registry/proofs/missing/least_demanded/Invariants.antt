use Rattle.std.proofs.Common.{◌≡◌, drop, option_copied}
use Rattle.hex_registry.specs.Missing.{least_with, missing_demands}
use Rattle.hex_registry.specs.Shelves.{without_apps}
use Rattle.hex_registry.proofs.missing.least_demanded.Given as goal

abbrev pub invariant-loop-demand : goal.invariant-loop-demand
invariant-loop-demand l =
    least_with (option_copied l.low) (missing_demands l.pick (without_apps l.wants.pinned (drop l.demand-index l.demands))) ≡ least_with
    (option_copied l.fn.least) (missing_demands l.pick (without_apps l.wants.pinned l.demands))
