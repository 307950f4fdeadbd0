-- A search through a graph, and places in the order.
use Rattle.std.specs.Prelude.{◌≡◌, ◌↔◌, ℕ, ◌<◌, ◌≤◌, Bool, ◌||◌, List, length, slice_index, IsTrue}
use Rattle.std.specs.List.{AllPairs, Contains}
use Rattle.dep_order.specs.Listing.{is_listed}

-- a queue with these places too, which stays as it was up to its old end
pub record Adds (places old new : List ℕ) : Type 0 where
  pub longer : length old ≤ length new
  pub kept : (k : ℕ) → k < length old → slice_index new k ≡ slice_index old k
  pub each : (place : ℕ) → is_listed new place ≡ (is_listed old place || is_listed places place)

-- the numbers that pass a test, in increasing order
pub record AreNumbers (numbers : List ℕ) (has : ℕ → Bool) : Type 0 where
  pub in_order : AllPairs (λ earlier later. earlier < later) numbers
  pub each : (number : ℕ) → Contains numbers number ↔ IsTrue (has number)

-- where each place of the graph stands in the order
pub record AreRanks (order ranks : List ℕ) : Type 0 where
  pub there : (k : ℕ) → k < length order → slice_index ranks (slice_index order k) ≡ k
  pub back : (place : ℕ) → place < length ranks → (slice_index ranks place < length order) × (slice_index order (slice_index ranks place) ≡ place)
