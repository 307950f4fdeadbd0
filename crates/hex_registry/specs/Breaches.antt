-- Why a pick isn't valid, the first reason in their order.
use Rattle.std.specs.Prelude.{◌≡◌, ℕ, List, find, position, Option, Some, None, IsTrue, IsFalse, if◌then◌else◌}
use Rattle.std.specs.List.{Contains, list_any}
use Rattle.std.specs.Ordering.{is_le, nat_cmp, ordering_then}
use Rattle.std.specs.declared.cmp.Ordering.{Ordering}
use Rattle.mx_base.specs.Order.{text_cmp}
use Rattle.hex_registry.specs.declared.breach.Breach.{Breach}
use Rattle.hex_registry.specs.declared.breach.Breach.TheVariants.{NotPicked, NotCandidate, Unmet, Unreached}
use Rattle.hex_registry.specs.declared.unmet.By.{By}
use Rattle.hex_registry.specs.declared.unmet.By.TheVariants.{Want, Package}
use Rattle.hex_registry.specs.declared.offer.Offer.{Offer}
use Rattle.hex_registry.specs.declared.shelf.Shelf.{Shelf}
use Rattle.hex_registry.specs.declared.wants.Wants.{Wants}
use Rattle.hex_registry.specs.Picks.{Picked, IsAsked, IsReached, has_package, is_candidate, demand_refuses, demands_at, want_refuses}
use Rattle.hex_registry.specs.Shelves.{offer_at}

-- the first want that doesn't take a release of this package
abbrev pub first_want_against : Wants → List ℕ → Offer → Option ℕ
first_want_against wants name offer = position (want_refuses name offer) wants.wants

-- the first picked package whose release doesn't take it
abbrev pub first_demand_against : List Shelf → Wants → List Picked → List ℕ × Offer → Option Picked
first_demand_against shelves wants pick picked =
    find (λ by. list_any (demand_refuses wants.overridden picked.0 picked.1) (demands_at shelves wants by)) pick

-- who states a requirement that a picked release doesn't meet: the first want, or where none does the first package
pub data IsAgainst (shelves : List Shelf) (wants : Wants) (pick : List Picked) (picked : Picked) : By → Type 0 where
  want : {index : ℕ} (offer : Offer) → offer_at shelves picked ≡ Some offer → first_want_against wants picked.0 offer ≡ Some index
      → IsAgainst shelves wants pick picked (Want index)
  demand : (by : Picked) (offer : Offer) → offer_at shelves picked ≡ Some offer → first_want_against wants picked.0 offer ≡ None
      → first_demand_against shelves wants pick (picked.0, offer) ≡ Some by → IsAgainst shelves wants pick picked (Package by.0)

abbrev pub SaysAgainst : List Shelf → Wants → List Picked → Picked → Option By → Type 0
SaysAgainst shelves wants pick picked None = (by : By) → IsAgainst shelves wants pick picked by → ⊥
SaysAgainst shelves wants pick picked (Some by) = IsAgainst shelves wants pick picked by

-- why a pick isn't valid
pub data IsBreach (shelves : List Shelf) (wants : Wants) (pick : List Picked) : Breach → Type 0 where
  not_picked : {name : List ℕ} → IsAsked shelves wants pick name → IsFalse (has_package pick name) → IsBreach shelves wants pick (NotPicked name)
  not_candidate : (picked : Picked) → Contains pick picked → IsFalse (is_candidate shelves picked) → IsBreach shelves wants pick (NotCandidate picked.0)
  unmet : (picked : Picked) {by : By} → Contains pick picked → IsAgainst shelves wants pick picked by → IsBreach shelves wants pick (Unmet picked.0 by)
  unreached : (picked : Picked) → Contains pick picked → (IsReached shelves wants pick picked.0 → ⊥) → IsBreach shelves wants pick (Unreached picked.0)

-- the order of the kinds, from 0
abbrev pub kind_of : Breach → ℕ
kind_of (NotPicked name) = 0
kind_of (NotCandidate name) = 1
kind_of (Unmet name by) = 2
kind_of (Unreached name) = 3

abbrev pub package_of : Breach → List ℕ
package_of (NotPicked name) = name
package_of (NotCandidate name) = name
package_of (Unmet name by) = name
package_of (Unreached name) = name

-- by kind, and then by package in byte order
abbrev pub breach_cmp : Breach → Breach → Ordering
breach_cmp one other = ordering_then (nat_cmp (kind_of one) (kind_of other)) (text_cmp (package_of one) (package_of other))

-- the lesser of two names, where there are two
abbrev pub lesser_of : Option (List ℕ) → List ℕ → List ℕ
lesser_of None name = name
lesser_of (Some least) name = if is_le (text_cmp least name) then least else name

-- a breach of this kind
abbrev pub IsOfKind : (Breach → Type 0) → ℕ → Breach → Type 0
IsOfKind Is kind breach = (kind_of breach ≡ kind) × Is breach

-- the first of these breaches, or none
pub data IsFirst (Is : Breach → Type 0) : Option Breach → Type 0 where
  none : ((breach : Breach) → Is breach → ⊥) → IsFirst Is None
  first : {breach : Breach} → Is breach → ((other : Breach) → Is other → IsTrue (is_le (breach_cmp breach other))) → IsFirst Is (Some breach)

-- why a pick isn't valid, the first reason, or none
abbrev pub SaysBreach : List Shelf → Wants → List Picked → Option Breach → Type 0
SaysBreach shelves wants pick found = IsFirst (IsBreach shelves wants pick) found
