-- The demands of picked releases as a graph of their places in the pick.
use Rattle.std.specs.Prelude.{◌≡◌, ℕ, Bool, not, List, map, filter, filter_map, position, Option, bytes_eq}
use Rattle.hex_registry.specs.declared.offer.Demand.{Demand}
use Rattle.hex_registry.specs.declared.shelf.Shelf.{Shelf}
use Rattle.hex_registry.specs.declared.wants.Want.{Want}
use Rattle.hex_registry.specs.declared.wants.Wants.{Wants}
use Rattle.hex_registry.specs.Picks.{Picked, demands_at}

-- where a package stands in a pick
abbrev pub index_of : List Picked → List ℕ → Option ℕ
index_of pick name = position (λ picked. bytes_eq name picked.0) pick

-- the places of the picked packages that wants require
abbrev pub starts_of : List Picked → List Want → List ℕ
starts_of pick wants = filter_map (λ want. index_of pick want.«package») (filter (λ want. not want.optional) wants)

-- the places of the picked packages that demands require
abbrev pub links_of : List Picked → List Demand → List ℕ
links_of pick demands = filter_map (λ demand. index_of pick demand.«package») (filter (λ demand. not demand.optional) demands)

-- each picked package leads to those that its release requires
abbrev pub graph_of : List Shelf → Wants → List Picked → List (List ℕ)
graph_of shelves wants pick = map (λ by. links_of pick (demands_at shelves wants by)) pick
