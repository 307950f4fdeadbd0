-- Packages that are required and not picked.
use Rattle.std.specs.Prelude.{ℕ, Bool, not, ◌&&◌, List, ◌++◌, map, filter, flat_map, fold, Option, Some, None}
use Rattle.hex_registry.specs.declared.offer.Demand.{Demand}
use Rattle.hex_registry.specs.declared.shelf.Shelf.{Shelf}
use Rattle.hex_registry.specs.declared.wants.Want.{Want}
use Rattle.hex_registry.specs.declared.wants.Wants.{Wants}
use Rattle.hex_registry.specs.Breaches.{lesser_of}
use Rattle.hex_registry.specs.Picks.{Picked, demands_at, has_package}

abbrev pub misses_want : List Picked → Want → Bool
misses_want pick want = not want.optional && not (has_package pick want.«package»)

abbrev pub misses_demand : List Picked → Demand → Bool
misses_demand pick demand = not demand.optional && not (has_package pick demand.«package»)

abbrev pub missing_wants : List Picked → List Want → List (List ℕ)
missing_wants pick wants = map (λ want. want.«package») (filter (misses_want pick) wants)

abbrev pub missing_demands : List Picked → List Demand → List (List ℕ)
missing_demands pick demands = map (λ demand. demand.«package») (filter (misses_demand pick) demands)

-- what is missing, as often as it is required
abbrev pub missing_names : List Shelf → Wants → List Picked → List (List ℕ)
missing_names shelves wants pick = missing_wants pick wants.wants ++ flat_map (λ by. missing_demands pick (demands_at shelves wants by)) pick

-- the least of a name, where there is one, and of names
abbrev pub least_with : Option (List ℕ) → List (List ℕ) → Option (List ℕ)
least_with least names = fold (λ l name. Some (lesser_of l name)) least names
