-- The cycle that is shown where a listing can't go on.
use Rattle.std.specs.Prelude.{◌≡◌, ◌≢◌, ℕ, ◌+◌, ◌-◌, ◌<◌, ◌≤◌, not, List, length, drop, slice_index, Option, Some, find}
use Rattle.std.specs.List.{AllPairs, Contains}
use Rattle.dep_order.specs.Graph.{needs_of}
use Rattle.dep_order.specs.Listing.{is_listed, IsLeft, IsStuck}

-- a cycle of a graph: its places differ, each needs the next one directly, and the last one needs the first
pub record IsCycle (graph : List (List ℕ)) (cycle : List ℕ) : Type 0 where
  pub not_empty : 0 < length cycle
  pub apart : AllPairs (λ earlier later. earlier ≢ later) cycle
  pub steps : (k : ℕ) → k + 1 < length cycle → Contains (needs_of graph (slice_index cycle k)) (slice_index cycle (k + 1))
  pub back : Contains (needs_of graph (slice_index cycle (length cycle - 1))) (slice_index cycle 0)

-- the first place that is left
pub record IsFirstLeft (graph : List (List ℕ)) (listed : List ℕ) (place : ℕ) : Type 0 where
  pub left : IsLeft graph listed place
  pub first : (other : ℕ) → IsLeft graph listed other → place ≤ other

-- the first direct need of a place that isn't listed
abbrev pub first_need_left : List (List ℕ) → List ℕ → ℕ → Option ℕ
first_need_left graph listed place = find (λ need. not (is_listed listed need)) (needs_of graph place)

-- a walk from the first place that is left, on from each place to its first need that is left, with no place twice
pub record IsWalk (graph : List (List ℕ)) (listed walk : List ℕ) : Type 0 where
  pub not_empty : 0 < length walk
  pub start : IsFirstLeft graph listed (slice_index walk 0)
  pub steps : (k : ℕ) → k + 1 < length walk → first_need_left graph listed (slice_index walk k) ≡ Some (slice_index walk (k + 1))
  pub apart : AllPairs (λ earlier later. earlier ≢ later) walk

-- the walk's next step would lead back to its place at `from`, and the cycle holds the places from that one on
pub record IsCycleAfter (graph : List (List ℕ)) (listed cycle : List ℕ) : Type 0 where
  pub walk : List ℕ
  pub from : ℕ
  pub is_walk : IsWalk graph listed walk
  pub within : from < length walk
  pub back : first_need_left graph listed (slice_index walk (length walk - 1)) ≡ Some (slice_index walk from)
  pub rest : cycle ≡ drop from walk

-- the cycle of a graph that has no order
pub record IsCycleOf (graph : List (List ℕ)) (cycle : List ℕ) : Type 0 where
  pub listed : List ℕ
  pub stuck : IsStuck graph listed
  pub around : IsCycleAfter graph listed cycle
