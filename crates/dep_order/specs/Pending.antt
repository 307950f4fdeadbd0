-- Counts of the needs that a listing still waits for.
use Rattle.std.specs.Prelude.{◌≡◌, ◌≢◌, ◌≤◌, ℕ, ◌+◌, ◌<◌, Bool, not, nat_eq, List, length, slice_index, count_by, IsTrue, ◌↔◌, ◌⊎◌}
use Rattle.dep_order.specs.Graph.{needs_of}
use Rattle.dep_order.specs.Listing.{is_listed, IsReady, IsListing}

-- how often a place stands in a list
abbrev pub times : ℕ → List ℕ → ℕ
times place places = count_by (nat_eq place) places

-- how many of a place's direct needs aren't listed, each as often as it is named
abbrev pub pending_of : List (List ℕ) → List ℕ → ℕ → ℕ
pending_of graph listed place = count_by (λ need. not (is_listed listed need)) (needs_of graph place)

-- the counts are those of all places of the graph
pub record ArePending (graph : List (List ℕ)) (listed pending : List ℕ) : Type 0 where
  pub long : length pending ≡ length graph
  pub each : (place : ℕ) → slice_index pending place ≡ pending_of graph listed place

-- each place stands among another's dependents as often as it names that one
pub record AreDependents (graph dependents : List (List ℕ)) : Type 0 where
  pub long : length dependents ≡ length graph
  pub each : (need place : ℕ) → times place (needs_of dependents need) ≡ times need (needs_of graph place)

-- each of these places waits for one need less, as often as it stands among them, and where none is left it is ready
pub record Releases (places old_pending new_pending : List ℕ) (was_ready is_ready : ℕ → Bool) : Type 0 where
  pub long : length new_pending ≡ length old_pending
  pub each : (place : ℕ) → slice_index new_pending place + times place places ≡ slice_index old_pending place
  pub ready : (place : ℕ) → IsTrue (is_ready place) ↔ (IsTrue (was_ready place) ⊎ ((0 < times place places) × (slice_index new_pending place ≡ 0)))

-- a listing that has come to its end, with its counts
pub record HasStopped (graph : List (List ℕ)) (listed pending : List ℕ) : Type 0 where
  pub listing : IsListing graph listed
  pub stops : (place : ℕ) → IsReady graph listed place → ⊥
  pub counts : ArePending graph listed pending

-- a set without its first place
pub record TakesFirst (place : ℕ) (old new : ℕ → Bool) : Type 0 where
  pub had : IsTrue (old place)
  pub first : (q : ℕ) → IsTrue (old q) → place ≤ q
  pub back : (q : ℕ) → IsTrue (new q) → (q ≢ place) × IsTrue (old q)
  pub kept : (q : ℕ) → IsTrue (old q) → q ≢ place → IsTrue (new q)
