-- What a pick, wants and offers say together.
use Rattle.std.specs.Prelude.{◌≡◌, ℕ, ◌≤◌, Bool, true, false, not, ◌||◌, ◌&&◌, List, [], ◌∷◌, map, find, filter, length, position, Option, Some, None, Result, Ok, Err, option_map, is_some, IsTrue, bytes_eq, if◌then◌else◌}
use Rattle.std.specs.List.{Contains, position_or_len}
use Rattle.std.specs.Ordering.{is_lt}
use Rattle.mx_base.specs.Order.{ArePathsInOrder, text_cmp}
use Rattle.semver.specs.Identifiers.{parts_of}
use Rattle.semver.specs.Parse.{Parts}
use Rattle.version_req.specs.Condition.{Alternatives, Condition}
use Rattle.version_req.specs.Meaning.{sat}
use Rattle.version_req.specs.declared.operator.Operator.TheVariants.{GreaterOrEqual}
use Rattle.hex_registry.specs.declared.offer.Demand.{Demand}
use Rattle.hex_registry.specs.declared.offer.Offer.{Offer}
use Rattle.hex_registry.specs.declared.shelf.Shelf.{Shelf}
use Rattle.hex_registry.specs.declared.wants.Want.{Want}
use Rattle.hex_registry.specs.declared.wants.Wants.{Wants}
use Rattle.hex_registry.specs.Candidates.{is_usable_in}
use Rattle.hex_registry.specs.Shelves.{is_among, demands_of, offer_at, without_apps}

-- a package and the place of its release
abbrev pub Picked : Type 0
Picked = List ℕ × ℕ

-- packages stand in byte order, each once
abbrev pub ArePicks : List Picked → Type 0
ArePicks pick = ArePathsInOrder (map (λ picked. picked.0) pick)

-- what is picked of a package
abbrev pub picked_of : List Picked → List ℕ → Option Picked
picked_of pick name = find (λ picked. bytes_eq name picked.0) pick

abbrev pub has_package : List Picked → List ℕ → Bool
has_package pick name = is_some (picked_of pick name)

abbrev pub from_zero : Condition
from_zero = record { operator = GreaterOrEqual; operand = (0, 0, 0, [], []); patch_written = true }

-- `>= 0.0.0`, which stands where a want has no requirement
abbrev pub any_release : Alternatives
any_release = (from_zero ∷ []) ∷ []

abbrev pub alternatives_of : Option Alternatives → Alternatives
alternatives_of None = any_release
alternatives_of (Some requirement) = requirement

-- a want takes the release, without pre-releases allowed
abbrev pub want_takes : Offer → Want → Bool
want_takes offer want = sat (alternatives_of want.requirement) (parts_of offer.version) false

-- a demand takes the release, likewise; on an overridden app its requirement isn't in force
abbrev pub demand_takes : List (List ℕ) → Offer → Demand → Bool
demand_takes overridden offer demand = is_among demand.app overridden || sat demand.requirement (parts_of offer.version) false

-- the want is of this package and doesn't take its release
abbrev pub want_refuses : List ℕ → Offer → Want → Bool
want_refuses name offer want = bytes_eq name want.«package» && not (want_takes offer want)

abbrev pub demand_refuses : List (List ℕ) → List ℕ → Offer → Demand → Bool
demand_refuses overridden name offer demand = bytes_eq name demand.«package» && not (demand_takes overridden offer demand)

-- what a picked release asks for; demands of pinned apps are set aside
abbrev pub demands_at : List Shelf → Wants → Picked → List Demand
demands_at shelves wants picked = without_apps wants.pinned (demands_of (offer_at shelves picked))

-- the picked release is a candidate
abbrev pub is_candidate : List Shelf → Picked → Bool
is_candidate shelves picked = is_usable_in (offer_at shelves picked)

-- a want, or a release that is picked, requires the package
pub data IsAsked (shelves : List Shelf) (wants : Wants) (pick : List Picked) : List ℕ → Type 0 where
  wanted : (want : Want) → Contains wants.wants want → want.optional ≡ false → IsAsked shelves wants pick want.«package»
  demanded : (by : Picked) (demand : Demand) → Contains pick by → Contains (demands_at shelves wants by) demand → demand.optional ≡ false
      → IsAsked shelves wants pick demand.«package»

-- a package is reached from required wants by required dependencies of picked releases
pub data IsReached (shelves : List Shelf) (wants : Wants) (pick : List Picked) : List ℕ → Type 0 where
  wanted : (want : Want) → Contains wants.wants want → want.optional ≡ false → IsReached shelves wants pick want.«package»
  demanded : (by : Picked) (demand : Demand) → Contains pick by → IsReached shelves wants pick by.0 → Contains (demands_at shelves wants by) demand
      → demand.optional ≡ false → IsReached shelves wants pick demand.«package»

-- with one more release, in byte order of packages
abbrev pub with_picked : List Picked → Picked → List Picked
with_picked [] picked = picked ∷ []
with_picked (first ∷ rest) picked = if is_lt (text_cmp first.0 picked.0) then first ∷ with_picked rest picked else picked ∷ first ∷ rest

-- without a package
abbrev pub without_package : List Picked → List ℕ → List Picked
without_package pick name = filter (λ picked. not (bytes_eq name picked.0)) pick

-- with a package that may be picked already, and then stays as it is
abbrev pub adding : List Picked → Picked → List Picked
adding pick picked = if has_package pick picked.0 then pick else with_picked pick picked

-- how many packages stand before the place of a name
abbrev pub place_for : List Picked → List ℕ → ℕ
place_for pick name = position_or_len (λ picked. not (is_lt (text_cmp picked.0 name))) pick

-- where a package stands in a pick, and else where it would
abbrev pub SaysPlace : List Picked → List ℕ → Result ℕ ℕ → Type 0
SaysPlace pick name (Ok at) = position (λ picked. bytes_eq name picked.0) pick ≡ Some at
SaysPlace pick name (Err at) = (position (λ picked. bytes_eq name picked.0) pick ≡ None) × (at ≡ place_for pick name) × (at ≤ length pick)
