use Rattle.std.proofs.Common.{◌≡◌, None, drop, flat_map, option_copied}
use Rattle.hex_registry.specs.Missing.{least_with, missing_demands, missing_names}
use Rattle.hex_registry.specs.Picks.{demands_at}
use Rattle.hex_registry.proofs.missing.first_missing.Given as goal

abbrev pub invariant-loop-by : goal.invariant-loop-by
invariant-loop-by l =
    least_with (option_copied l.least) (flat_map (λ by. missing_demands l.pick (demands_at l.registry l.wants by)) (drop l.by-index l.by-items)) ≡ least_with
    None (missing_names l.registry l.wants l.pick)
