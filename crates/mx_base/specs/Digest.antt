-- Digests.
use Rattle.std.specs.Prelude.{◌≡◌, ℕ, List, length}
use Rattle.hex.specs.Hex.{IsBytes}

-- 32 bytes (FIPS 180-4, section 6.2.2)
pub record IsDigest (bytes : List ℕ) : Type 0 where
  pub long : length bytes ≡ 32
  pub fits : IsBytes bytes
