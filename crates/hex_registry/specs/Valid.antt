-- Valid picks. Nothing here speaks of a search.
use Rattle.std.specs.Prelude.{◌≡◌, ℕ, true, List, Option, Some, IsTrue}
use Rattle.std.specs.List.{Contains}
use Rattle.hex_registry.specs.declared.offer.Demand.{Demand}
use Rattle.hex_registry.specs.declared.offer.Offer.{Offer}
use Rattle.hex_registry.specs.declared.shelf.Shelf.{Shelf}
use Rattle.hex_registry.specs.declared.wants.Want.{Want}
use Rattle.hex_registry.specs.declared.wants.Wants.{Wants}
use Rattle.hex_registry.specs.Picks.{Picked, ArePicks, IsAsked, IsReached, has_package, is_candidate, demand_takes, demands_at, want_takes}
use Rattle.hex_registry.specs.Shelves.{offer_at}

pub record IsValid (shelves : List Shelf) (wants : Wants) (pick : List Picked) : Type 0 where
  -- each package once, in byte order
  pub in_order : ArePicks pick
  -- what is required is picked
  pub whole : (name : List ℕ) → IsAsked shelves wants pick name → IsTrue (has_package pick name)
  pub candidates : (picked : Picked) → Contains pick picked → IsTrue (is_candidate shelves picked)
  -- each requirement in force on a picked package is met
  pub wants_met : (want : Want) (picked : Picked) (offer : Offer) → Contains wants.wants want → Contains pick picked → picked.0 ≡ want.«package»
      → offer_at shelves picked ≡ Some offer → IsTrue (want_takes offer want)
  pub demands_met : (by picked : Picked) (demand : Demand) (offer : Offer) → Contains pick by → Contains (demands_at shelves wants by) demand
      → Contains pick picked → picked.0 ≡ demand.«package» → offer_at shelves picked ≡ Some offer → IsTrue (demand_takes wants.overridden offer demand)
  -- and nothing else is
  pub reached : (picked : Picked) → Contains pick picked → IsReached shelves wants pick picked.0
