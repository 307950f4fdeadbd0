use Rattle.std.proofs.Common.{◌≡◌, drop, map, bytes_eq}
use Rattle.indexmap.specs.IndexSet.{insert_all}
use Rattle.hex_registry.specs.Loaded.{named_by_offer}
use Rattle.hex_registry.specs.Shelves.{without_apps}
use Rattle.hex_registry.proofs.loading.add_named_by.Given as goal

abbrev pub invariant-loop-demand : goal.invariant-loop-demand
invariant-loop-demand l =
    insert_all bytes_eq l.names.keys (map (λ demand. demand.«package») (without_apps l.wants.pinned (drop l.demand-index l.demand-items))) ≡ insert_all
    bytes_eq l.fn.names.keys (map (λ demand. demand.«package») (without_apps l.wants.pinned l.demand-items))
