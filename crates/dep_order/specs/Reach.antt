-- What a place needs, directly or through others.
use Rattle.std.specs.Prelude.{◌≡◌, ℕ, ◌<◌, Bool, List, IsTrue, ◌↔◌, filter}
use Rattle.std.specs.List.{All, AllPairs, Contains}
use Rattle.dep_order.specs.Graph.{needs_of}

-- reached from some places are these, and what a place that is reached needs directly
pub data IsReachedFrom (graph : List (List ℕ)) (starts : List ℕ) : ℕ → Type 0 where
  Direct : (place : ℕ) → Contains starts place → IsReachedFrom graph starts place
  Further : (through need : ℕ) → IsReachedFrom graph starts through → Contains (needs_of graph through) need → IsReachedFrom graph starts need

-- reached from a place is what is reached from those that it needs directly
abbrev pub Reaches : List (List ℕ) → ℕ → ℕ → Type 0
Reaches graph from = IsReachedFrom graph (needs_of graph from)

-- all places that are reached from these, in increasing order
pub record AreReachedFrom (graph : List (List ℕ)) (starts places : List ℕ) : Type 0 where
  pub in_order : AllPairs (λ earlier later. earlier < later) places
  pub each : (place : ℕ) → Contains places place ↔ IsReachedFrom graph starts place

-- a set that has what a place needs directly, and with each of its places what that one needs directly
pub record IsClosedFrom (graph : List (List ℕ)) (from : ℕ) (set : ℕ → Bool) : Type 0 where
  pub direct : All (λ need. IsTrue (set need)) (needs_of graph from)
  pub further : (through : ℕ) → IsTrue (set through) → All (λ need. IsTrue (set need)) (needs_of graph through)

-- the places of the order that are reached from a place, as the order has them
pub record IsClosureOf (graph : List (List ℕ)) (order : List ℕ) (place : ℕ) (reached : List ℕ) : Type 0 where
  pub is_reached : ℕ → Bool
  pub tells : (other : ℕ) → IsTrue (is_reached other) ↔ Reaches graph place other
  pub kept : reached ≡ filter is_reached order
