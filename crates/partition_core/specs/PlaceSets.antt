-- Flags in blocks of 64.
use Rattle.std.specs.Prelude.{◌≡◌, ℕ, ◌+◌, ◌*◌, ◌<◌, ◌≤◌, Bool, true, List, length, Some, slice_get}

-- each block that has a true flag is true, and the blocks reach over all flags, by one of them at most
pub record AreBlocksOf (flags blocks : List Bool) : Type 0 where
  pub enough : length flags < 64 * length blocks
  pub needed : 64 * length blocks ≤ length flags + 64
  pub stands : (block place : ℕ) → 64 * block ≤ place → place < 64 * block + 64 → slice_get flags place ≡ Some true → slice_get blocks block ≡ Some true

-- the flag is the first one that is true
pub record IsFirstOf (flags : List Bool) (place : ℕ) : Type 0 where
  pub here : slice_get flags place ≡ Some true
  pub before : (earlier : ℕ) → earlier < place → slice_get flags earlier ≡ Some true → ⊥

-- the flag is the first one of its block that is true
pub record IsFirstIn (flags : List Bool) (block : ℕ) (place : ℕ) : Type 0 where
  pub low : 64 * block ≤ place
  pub high : place < 64 * block + 64
  pub here : slice_get flags place ≡ Some true
  pub before : (earlier : ℕ) → 64 * block ≤ earlier → earlier < place → slice_get flags earlier ≡ Some true → ⊥
