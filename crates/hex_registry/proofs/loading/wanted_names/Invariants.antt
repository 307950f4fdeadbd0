use Rattle.std.proofs.Common.{◌≡◌, [], drop, map, bytes_eq}
use Rattle.indexmap.specs.IndexSet.{insert_all}
use Rattle.hex_registry.proofs.loading.wanted_names.Given as goal

abbrev pub invariant-loop-want : goal.invariant-loop-want
invariant-loop-want l =
    insert_all bytes_eq l.names.keys (map (λ want. want.«package») (drop l.want-index l.want-items)) ≡ insert_all bytes_eq []
    (map (λ want. want.«package») l.want-items)
