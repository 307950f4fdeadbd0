use Rattle.std.proofs.Common.{◌≡◌, ◌++◌, drop, flat_map, map}
use Rattle.hex_registry.specs.Picks.{demands_at}
use Rattle.hex_pick.specs.Fitting.{demands_on, on_package}
use Rattle.hex_pick.proofs.fitting.demands_on.Given as goal

abbrev pub invariant-loop-by : goal.invariant-loop-by
invariant-loop-by l =
    map (λ demand. demand.now) l.asked.items ++ flat_map (λ by. on_package l.name (demands_at l.registry l.wants by)) (drop l.by-index l.by-items) ≡
    demands_on l.registry l.wants l.pick l.name
