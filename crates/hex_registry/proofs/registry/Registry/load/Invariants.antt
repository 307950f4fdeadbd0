use Rattle.std.proofs.Common.{◌-◌, ◌^◌, length}
use Rattle.hex_registry.proofs.LoadSteps.{IsReading}
use Rattle.hex_registry.proofs.registry.Registry.load.Given as goal

abbrev pub invariant-reading : goal.invariant-reading
invariant-reading g l = IsReading (g.S.Store.known l.fn.store) (g.S.Store.known l.store) l.wants l.shelves.items l.names.keys l.wanted

abbrev pub decreases-reading : goal.decreases-reading
decreases-reading g l = 2 ^ 63 - length l.shelves.items
