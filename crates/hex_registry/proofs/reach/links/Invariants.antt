use Rattle.std.proofs.Common.{◌≡◌, ◌++◌, drop, map}
use Rattle.hex_registry.specs.Picks.{demands_at}
use Rattle.hex_registry.specs.Reach.{graph_of, links_of}
use Rattle.hex_registry.proofs.reach.links.Given as goal

abbrev pub invariant-loop-by : goal.invariant-loop-by
invariant-loop-by l =
    l.links.items ++ map (λ by. links_of l.pick (demands_at l.registry l.wants by)) (drop l.by-index l.by-items) ≡ map
    (λ by. links_of l.pick (demands_at l.registry l.wants by)) l.by-items
