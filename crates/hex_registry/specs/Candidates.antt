-- The candidates of a package in their order.
use Rattle.std.specs.Prelude.{◌≡◌, ◌↔◌, ℕ, suc, Bool, false, ◌&&◌, ◌==◌, List, [], ◌∷◌, position, zip, Option, Some, None, IsTrue, bytes_eq, slice_get, if◌then◌else◌}
use Rattle.std.specs.List.{AllPairs, Contains}
use Rattle.std.specs.Ordering.{bool_cmp, nat_cmp, ordering_then}
use Rattle.std.specs.declared.cmp.Ordering.{Ordering}
use Rattle.std.specs.declared.cmp.Ordering.TheVariants.{Less}
use Rattle.semver.specs.Eval.{precedence_cmp}
use Rattle.hex_messages.specs.declared.package.Release.{Release}
use Rattle.hex_registry.specs.declared.candidates.Candidate.{Candidate}
use Rattle.hex_registry.specs.declared.offer.Offer.{Offer}
use Rattle.hex_registry.specs.declared.shelf.Stock.{Stock}
use Rattle.hex_registry.specs.Offers.{is_usable}

abbrev pub is_usable_in : Option Offer → Bool
is_usable_in None = false
is_usable_in (Some offer) = is_usable offer

-- a usable release stands at this place
abbrev pub is_usable_at : Stock → ℕ → Bool
is_usable_at stock place = is_usable_in (slice_get stock.offers place)

abbrev pub is_locked : List ℕ → Release × Offer → Bool
is_locked text released = is_usable released.1 && bytes_eq released.0.version text

-- the place of the locked release: the first usable one whose version's text is locked
abbrev pub locked_place : Stock → Option (List ℕ) → Option ℕ
locked_place stock None = None
locked_place stock (Some text) = position (is_locked text) (zip stock.message.releases stock.offers)

-- what is compared of a usable release
pub record Ranked : Type 0 where
  pub place : ℕ
  pub locked : Bool
  pub offer : Offer

abbrev pub candidate_in : Candidate → Ranked
candidate_in candidate = record { place = candidate.place; locked = candidate.locked; offer = candidate.offer.now }

-- the locked one first, then those that aren't retired, newer precedence first, and ties in the order of the message
abbrev pub candidate_cmp : Ranked → Ranked → Ordering
candidate_cmp one other =
    ordering_then (bool_cmp other.locked one.locked)
    (ordering_then (bool_cmp one.offer.retired other.offer.retired)
    (ordering_then (precedence_cmp other.offer.version one.offer.version) (nat_cmp one.place other.place)))

-- a usable release, of which it is told whether it stands at the locked place
pub record IsCandidate (stock : Stock) (locked : Option ℕ) (candidate : Ranked) : Type 0 where
  pub at : slice_get stock.offers candidate.place ≡ Some candidate.offer
  pub usable : IsTrue (is_usable candidate.offer)
  pub is_locked : IsTrue candidate.locked ↔ (locked ≡ Some candidate.place)

-- of two places of usable releases the first one stands earlier
abbrev pub ComesBefore : Stock → Option ℕ → ℕ → ℕ → Type 0
ComesBefore stock locked place other =
    (one later : Ranked) → IsCandidate stock locked one → IsCandidate stock locked later
    → one.place ≡ place → later.place ≡ other → candidate_cmp one later ≡ Less

-- a place is the locked one
abbrev pub is_place : Option ℕ → ℕ → Bool
is_place None place = false
is_place (Some locked) place = locked == place

-- the usable releases from a place on, in the order of the message
abbrev pub usable_from : Option ℕ → ℕ → List Offer → List Ranked
usable_from locked place [] = []
usable_from locked place (offer ∷ offers) =
    if is_usable offer
    then record { place = place; locked = is_place locked place; offer = offer } ∷ usable_from locked (suc place) offers
    else usable_from locked (suc place) offers

-- the places of all usable releases in the order of candidates
pub record AreCandidates (stock : Stock) (locked : Option (List ℕ)) (places : List ℕ) : Type 0 where
  pub each : (place : ℕ) → Contains places place ↔ IsTrue (is_usable_at stock place)
  pub in_order : AllPairs (ComesBefore stock (locked_place stock locked)) places

-- a package that wasn't read has none
abbrev pub AreCandidatesOf : Option Stock → Option (List ℕ) → List ℕ → Type 0
AreCandidatesOf None locked places = places ≡ []
AreCandidatesOf (Some stock) locked places = AreCandidates stock locked places
