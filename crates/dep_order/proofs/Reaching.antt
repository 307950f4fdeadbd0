-- What is reached from a place.
use Rattle.std.proofs.Common.{◌≡◌, ℕ, ◌<◌, Bool, true, List, length, get_or, take, All, Contains, ◌∙◌, arith, IsTrue}
use Rattle.std.proofs.lemmas.List.{get_or_default}
use Rattle.std.proofs.lemmas.List.Elements.{All-contains, Contains-get_or}
use Rattle.dep_order.specs.Graph.{needs_of}
use Rattle.dep_order.specs.Listing.{is_listed, IsListing, IsOrderOf}
use Rattle.dep_order.specs.Reach.{Reaches, Direct, Further, IsClosedFrom}
use Rattle.dep_order.proofs.Listed.{StandsAt, stands_at, listed_at, listed_before, Contains-from_listed}
use Rattle.dep_order.proofs.Listings.{needs_before}

pub needs_are_reached : (graph : List (List ℕ)) (from : ℕ) → All (Reaches graph from) (needs_of graph from)
needs_are_reached graph from k d within = Direct (get_or (needs_of graph from) k d) (Contains-get_or (needs_of graph from) k d within)

pub further_needs_are_reached : (graph : List (List ℕ)) (from through : ℕ) → Reaches graph from through → All (Reaches graph from) (needs_of graph through)
further_needs_are_reached graph from through reached k d within = Further through (get_or (needs_of graph through) k d) reached (Contains-get_or (needs_of graph through) k d within)

pub reached_in_closed : (graph : List (List ℕ)) (from need : ℕ) → Reaches graph from need → (set : ℕ → Bool) → IsClosedFrom graph from set → IsTrue (set need)
reached_in_closed graph from need (Direct _ has) set closed = All-contains (λ x. set x ≡ true) (needs_of graph from) need closed.direct has
reached_in_closed graph from need (Further through _ reached has) set closed =
    All-contains (λ x. set x ≡ true) (needs_of graph through) need (closed.further through (reached_in_closed graph from through reached set closed)) has

module _ (graph : List (List ℕ)) (order : List ℕ) (listing : IsListing graph order) where
  pub need_stands_before : (k need : ℕ) → k < length order → Contains (needs_of graph (get_or order k 0)) need → StandsAt order k need
  need_stands_before k need within has =
      let s = needs_before graph order listing k has.0 within has.1 in
      record { at = s.at; before = s.before; is = s.is ∙ get_or_default (needs_of graph (get_or order k 0)) has.0 0 need has.1 ∙ has.2 }

  pub reached_before : (k : ℕ) → k < length order → (need : ℕ) → Reaches graph (get_or order k 0) need → StandsAt order k need
  reached_before k within need (Direct _ has) = need_stands_before k need within has
  reached_before k within need (Further through _ reached has) =
      let s = reached_before k within through reached in
      let at : Contains (needs_of graph (get_or order s.at 0)) need = rw s.is has in
      let t = need_stands_before s.at need (omega arith) at in
      record { at = t.at; before = omega arith; is = t.is }

pub reached_comes_first : (graph : List (List ℕ)) (order : List ℕ) → IsOrderOf graph order → (k : ℕ) → k < length order → (need : ℕ) → Reaches graph (get_or order k 0) need → Contains (take k order) need
reached_comes_first graph order o k within need reached =
    let s = reached_before graph order o.listing k within need reached in
    Contains-from_listed (take k order) need (rw s.is at (listed_before order s.at k s.before (omega arith)))

pub reached_listed : (graph : List (List ℕ)) (order : List ℕ) → IsOrderOf graph order → (place : ℕ) → place < length graph → (need : ℕ) → Reaches graph place need → is_listed order need ≡ true
reached_listed graph order o place within need reached =
    let s = stands_at order place (o.whole place within) in
    let t = reached_before graph order o.listing s.at s.before need (rw s.is reached) in
    rw t.is at (listed_at order t.at (omega arith))
