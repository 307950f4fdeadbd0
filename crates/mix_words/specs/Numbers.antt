-- The numbers of the command line, in decimal without sign or leading zeros.
use Rattle.std.specs.Prelude.{◌≡◌, ℕ, ◌≤◌, Bool, false, ◌&&◌, ◌||◌, ◌==◌, nat_lt, List, [], ◌∷◌, length, decimal}
use Rattle.std.specs.Char.{is_ascii_digit}

-- a digit stands first, and nothing behind a leading zero
abbrev pub is_plain : List ℕ → Bool
is_plain [] = false
is_plain (byte ∷ bytes) = is_ascii_digit byte && (nat_lt 48 byte || length bytes == 0)

-- the text is a number within these bounds
pub record IsNumber (low high : ℕ) (text : List ℕ) (number : ℕ) : Type 0 where
  pub bytes : text ≡ decimal number
  pub least : low ≤ number
  pub most : number ≤ high

-- so many partitions there may be
pub record IsPartitionCount (count : ℕ) : Type 0 where
  pub least : 1 ≤ count
  pub most : count ≤ 64
