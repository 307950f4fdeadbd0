-- Whether a further release breaks a requirement, as far as it has to be asked.
use Rattle.std.specs.Prelude.{ℕ, Bool, true, not, ◌&&◌, List, filter, flat_map, Option, Some, None, option_map, bytes_eq}
use Rattle.std.specs.List.{list_any, list_all}
use Rattle.hex_registry.specs.Picks.{Picked, demand_refuses, demands_at, picked_of, want_refuses}
use Rattle.hex_registry.specs.Shelves.{listed_demands, offer_at, without_apps}
use Rattle.hex_registry.specs.declared.offer.Demand.{Demand}
use Rattle.hex_registry.specs.declared.offer.Offer.{Offer}
use Rattle.hex_registry.specs.declared.shelf.Shelf.{Shelf}
use Rattle.hex_registry.specs.declared.wants.Wants.{Wants}
use Rattle.hex_pick.specs.Problem.{demands_take_offer}

-- what is in force of the demands of a release
abbrev pub in_force : Wants → Offer → List Demand
in_force wants offer = without_apps wants.pinned (listed_demands offer.demands)

-- of some demands those on a package
abbrev pub on_package : List ℕ → List Demand → List Demand
on_package name demands = filter (λ demand. bytes_eq name demand.«package») demands

-- what picked releases demand of a package
abbrev pub demands_on : List Shelf → Wants → List Picked → List ℕ → List Demand
demands_on shelves wants pick name = flat_map (λ by. on_package name (demands_at shelves wants by)) pick

abbrev pub takes_offer : List (List ℕ) → Demand → Option Offer → Bool
takes_offer overridden demand None = true
takes_offer overridden demand (Some offer) = not (demand_refuses overridden demand.«package» offer demand)

abbrev pub offer_of : List Shelf → List ℕ → Option ℕ → Option Offer
offer_of shelves name None = None
offer_of shelves name (Some place) = offer_at shelves (name, place)

-- a demand takes what is picked of its package, if anything is
abbrev pub takes_picked : List Shelf → Wants → List Picked → Demand → Bool
takes_picked shelves wants pick demand =
    takes_offer wants.overridden demand (offer_of shelves demand.«package» (option_map (λ picked. picked.1) (picked_of pick demand.«package»)))

-- a release and one that is picked take one another
abbrev pub fits_offer : List Shelf → Wants → List ℕ → Offer → Picked → Bool
fits_offer shelves wants name offer other =
    not (list_any (demand_refuses wants.overridden name offer) (demands_at shelves wants other))
    && demands_take_offer wants.overridden (in_force wants offer) other.0 (offer_at shelves other)

-- a release takes itself, wants take it, and it and each of these take one another
abbrev pub fits_at : List Shelf → Wants → List Picked → List ℕ → Option Offer → Bool
fits_at shelves wants pick name None = true
fits_at shelves wants pick name (Some offer) =
    not (list_any (want_refuses name offer) wants.wants)
    && (not (list_any (demand_refuses wants.overridden name offer) (in_force wants offer)) && list_all (fits_offer shelves wants name offer) pick)

abbrev pub fits : List Shelf → Wants → List Picked → Picked → Bool
fits shelves wants pick picked = fits_at shelves wants pick picked.0 (offer_at shelves picked)
