use Rattle.std.proofs.Common.{◌≡◌, drop, flat_map, bytes_eq}
use Rattle.indexmap.specs.IndexSet.{insert_all}
use Rattle.hex_registry.specs.Loaded.{named_by_offer}
use Rattle.hex_registry.proofs.loading.add_named.Given as goal

abbrev pub invariant-loop-offer : goal.invariant-loop-offer
invariant-loop-offer l =
    insert_all bytes_eq l.names.keys (flat_map (named_by_offer l.wants.pinned) (drop l.offer-index l.offer-items)) ≡ insert_all bytes_eq l.fn.names.keys
    (flat_map (named_by_offer l.wants.pinned) l.offer-items)
