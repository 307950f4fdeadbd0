-- Listing the places of a graph, so that each stands after all that it needs.
use Rattle.std.specs.Prelude.{ℕ, ◌<◌, ◌≤◌, Bool, nat_eq, List, length, take, slice_index, IsTrue, IsFalse}
use Rattle.std.specs.List.{All, list_any}
use Rattle.dep_order.specs.Graph.{needs_of}

-- whether a place is among those that are listed
abbrev pub is_listed : List ℕ → ℕ → Bool
is_listed listed place = list_any (nat_eq place) listed

-- the place is of the graph, and not yet listed
pub record IsLeft (graph : List (List ℕ)) (listed : List ℕ) (place : ℕ) : Type 0 where
  pub within : place < length graph
  pub not_listed : IsFalse (is_listed listed place)

-- the place is left, and all that it needs directly is listed
pub record IsReady (graph : List (List ℕ)) (listed : List ℕ) (place : ℕ) : Type 0 where
  pub left : IsLeft graph listed place
  pub needs_listed : All (λ need. IsTrue (is_listed listed need)) (needs_of graph place)

-- the first place that is ready
pub record IsNext (graph : List (List ℕ)) (listed : List ℕ) (place : ℕ) : Type 0 where
  pub ready : IsReady graph listed place
  pub first : (other : ℕ) → IsReady graph listed other → place ≤ other

-- each place in the list is the first that was ready after those before it
pub record IsListing (graph : List (List ℕ)) (listed : List ℕ) : Type 0 where
  pub each : (k : ℕ) → k < length listed → IsNext graph (take k listed) (slice_index listed k)

-- the order of a graph: the listing that has every place
pub record IsOrderOf (graph : List (List ℕ)) (order : List ℕ) : Type 0 where
  pub listing : IsListing graph order
  pub whole : (place : ℕ) → place < length graph → IsTrue (is_listed order place)

-- a listing that can't go on: some place is left, and none is ready
pub record IsStuck (graph : List (List ℕ)) (listed : List ℕ) : Type 0 where
  pub listing : IsListing graph listed
  pub left : (place : ℕ) × IsLeft graph listed place
  pub stops : (place : ℕ) → IsReady graph listed place → ⊥
