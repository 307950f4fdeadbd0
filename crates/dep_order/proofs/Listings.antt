-- What holds of any listing.
use Rattle.std.proofs.Common.{◌≡◌, ◌≢◌, ◌↔◌, AllPairs, Contains, ℕ, ◌<◌, ◌≤◌, true, List, [], ◌∷◌, ◌++◌, length, get_or, take, sym, ◌∙◌, ap, refl, zero, suc, add-one, inl, inr, arith, le_antisymm}
use Rattle.std.proofs.lemmas.List.{get_or_default, take_all, take-append-le, take_more_same, length_push, get_or_append_left, get_or_push, take_at}
use Rattle.std.proofs.lemmas.Bool.{both_ways, cases_lt, cases_order}
use Rattle.dep_order.specs.Graph.{needs_of}
use Rattle.dep_order.specs.Listing.{is_listed, IsReady, IsNext, IsListing, IsOrderOf, IsStuck}
use Rattle.dep_order.proofs.Listed.{StandsAt, listed-from_Contains, Contains-from_listed, stands_at, stands_before, listed_before, listed_longer}

-- one listing
module _ (graph : List (List ℕ)) (order : List ℕ) (listing : IsListing graph order) where
  pub places_differ : (i j : ℕ) → i < j → j < length order → get_or order i 0 ≢ get_or order j 0
  places_differ i j before within same =
      let next = listing.each j within in
      both_ways _ next.ready.left.not_listed (rw same at (listed_before order i j before (omega arith)))

  pub listed_within : (place : ℕ) → is_listed order place ≡ true → place < length graph
  listed_within place h =
      let s = stands_at order place h in
      rw s.is at (listing.each s.at s.before).ready.left.within

  -- the needs of a place stand before it
  pub needs_before : (k i : ℕ) → k < length order → i < length (needs_of graph (get_or order k 0)) → StandsAt order k (get_or (needs_of graph (get_or order k 0)) i 0)
  needs_before k i within h = stands_before order k _ (omega arith) ((listing.each k within).ready.needs_listed i 0 h)

  -- what is listed has its needs listed
  pub listed_needs : (place : ℕ) → is_listed order place ≡ true → (i : ℕ) → i < length (needs_of graph place) → is_listed order (get_or (needs_of graph place) i 0) ≡ true
  listed_needs place h i within =
      let s = stands_at order place h in
      let same : needs_of graph (get_or order s.at 0) ≡ needs_of graph place = ap (needs_of graph) s.is in
      let ready : is_listed (take s.at order) (get_or (needs_of graph (get_or order s.at 0)) i 0) ≡ true = (listing.each s.at s.before).ready.needs_listed i 0 (rw same within) in
      listed_longer order s.at _ (omega arith) (rw same at ready)

next_same : (graph : List (List ℕ)) (a b : List ℕ) (x y : ℕ) → a ≡ b → x ≡ y → IsNext graph b y → IsNext graph a x
next_same graph a b x y same_list same_place next = rw (same_list, same_place) next

-- a place more
pub listing_push : (graph : List (List ℕ)) (order : List ℕ) (place : ℕ) → IsListing graph order → IsNext graph order place → IsListing graph (order ++ place ∷ [])
listing_push graph order place listing next = record {
  each = λ k within.
      elim (cases_lt k (length order)) [
        | inl before ↦ next_same graph _ _ _ _ (take-append-le k order (place ∷ []) (omega arith)) (get_or_append_left order (place ∷ []) 0 k before) (listing.each k before)
        | inr past ↦
            let at : length order ≡ k = omega (arith, length_push order place) in
            next_same graph _ _ _ _ (take_at order (place ∷ []) k at) (get_or_push order place 0 k at) next
      ];
}

-- a listing after which nothing is ready
pub record IsEnded (graph : List (List ℕ)) (listed : List ℕ) : Type 0 where
  pub listing : IsListing graph listed
  pub stops : (place : ℕ) → IsReady graph listed place → ⊥

pub ended_from_order : (graph : List (List ℕ)) (order : List ℕ) → IsOrderOf graph order → IsEnded graph order
ended_from_order graph order h = record {
  listing = h.listing;
  stops = λ place ready. both_ways _ ready.left.not_listed (h.whole place ready.left.within);
}

pub ended_from_stuck : (graph : List (List ℕ)) (listed : List ℕ) → IsStuck graph listed → IsEnded graph listed
ended_from_stuck graph listed h = record { listing = h.listing; stops = h.stops }

-- two listings
module _ (graph : List (List ℕ)) (a b : List ℕ) (listing_a : IsListing graph a) (listing_b : IsListing graph b) where
  same_next : (k : ℕ) → k < length a → k < length b → take k a ≡ take k b → get_or a k 0 ≡ get_or b k 0
  same_next k in_a in_b same =
      let next_a = listing_a.each k in_a in
      let next_b : IsNext graph (take k a) (get_or b k 0) = rw same (listing_b.each k in_b) in
      le_antisymm (next_a.first (get_or b k 0) next_b.ready) (next_b.first (get_or a k 0) next_a.ready)

  -- they agree as far as both go
  pub same_start : (k : ℕ) → k ≤ length a → k ≤ length b → take k a ≡ take k b
  same_start zero in_a in_b = refl
  same_start (suc k) in_a in_b =
      let in_a' : k < length a = omega arith in
      let in_b' : k < length b = omega arith in
      let before : take k a ≡ take k b = same_start k (omega arith) (omega arith) in
      rw add-one at (take_more_same a b k 0 in_a' in_b' before (same_next k in_a' in_b' before))

-- an ended listing is as long as any other
module _ (graph : List (List ℕ)) (ended other : List ℕ) (e : IsEnded graph ended) (listing : IsListing graph other) where
  no_longer : length ended < length other → ⊥
  no_longer longer =
      let same : take (length ended) other ≡ ended = sym (same_start graph ended other e.listing listing (length ended) (omega arith) (omega arith)) ∙ take_all (length ended) ended (omega arith) in
      e.stops (get_or other (length ended) 0) (rw same at (listing.each (length ended) longer).ready)

pub ended_same : (graph : List (List ℕ)) (a b : List ℕ) → IsEnded graph a → IsEnded graph b → a ≡ b
ended_same graph a b ended_a ended_b =
    elim (cases_order (length a) (length b)) [
      | inl same ↦
          sym (take_all (length a) a (omega arith))
          ∙ same_start graph a b ended_a.listing ended_b.listing (length a) (omega arith) (omega arith)
          ∙ take_all (length a) b (omega arith)
      | inr differ ↦ elim differ [
        | inl less ↦ absurd (no_longer graph a b ended_a ended_b.listing less)
        | inr more ↦ absurd (no_longer graph b a ended_b ended_a.listing more)
      ]
    ]

pub order_not_stuck : (graph : List (List ℕ)) (order listed : List ℕ) → IsOrderOf graph order → IsStuck graph listed → ⊥
order_not_stuck graph order listed o s =
    let same : order ≡ listed = ended_same graph order listed (ended_from_order graph order o) (ended_from_stuck graph listed s) in
    both_ways _ s.left.1.not_listed (rw same at (o.whole s.left.0 s.left.1.within))

pub one_order : (graph : List (List ℕ)) (order other : List ℕ) → IsOrderOf graph order → IsOrderOf graph other → order ≡ other
one_order graph order other o p = ended_same graph order other (ended_from_order graph order o) (ended_from_order graph other p)

pub one_stuck : (graph : List (List ℕ)) (listed other : List ℕ) → IsStuck graph listed → IsStuck graph other → listed ≡ other
one_stuck graph listed other s t = ended_same graph listed other (ended_from_stuck graph listed s) (ended_from_stuck graph other t)

pub order_apart : (graph : List (List ℕ)) (order : List ℕ) → IsOrderOf graph order → AllPairs (λ earlier later. earlier ≢ later) order
order_apart graph order o i j d before within same =
    places_differ graph order o.listing i j before within
    (get_or_default order i 0 d (omega arith) ∙ same ∙ get_or_default order j d 0 within)

pub order_has_places : (graph : List (List ℕ)) (order : List ℕ) → IsOrderOf graph order → (place : ℕ) → Contains order place ↔ (place < length graph)
order_has_places graph order o place =
    (λ has. listed_within graph order o.listing place (listed-from_Contains order place has), λ within. Contains-from_listed order place (o.whole place within))
