-- Numbers on the wire: digits to the base 128, the least first. Each byte but the last has 128 added.
use Rattle.std.specs.Prelude.{◌≡◌, ℕ, ◌+◌, ◌-◌, ◌*◌, ◌^◌, ◌<◌, ◌≤◌, Bool, false, ◌&&◌, nat_le, nat_lt, List, [], ◌∷◌, length, IsTrue, if◌then◌else◌}

-- whether 128 was added, so that another byte follows
abbrev pub goes_on : ℕ → Bool
goes_on byte = nat_le 128 byte

-- the last byte of a varint is the first one that doesn't go on
abbrev pub is_whole : List ℕ → Bool
is_whole [] = false
is_whole (byte ∷ []) = nat_lt byte 128
is_whole (byte ∷ next ∷ bytes) = goes_on byte && is_whole (next ∷ bytes)

-- the digit that a byte carries
abbrev pub digit : ℕ → ℕ
digit byte = if goes_on byte then byte - 128 else byte

-- the number of the digits
abbrev pub number_of : List ℕ → ℕ
number_of [] = 0
number_of (byte ∷ bytes) = digit byte + 128 * number_of bytes

-- the bytes write the number: at most ten of them, and a number below 2 ^ 64. Zeros may fill up the end
pub record IsVarint (bytes : List ℕ) (n : ℕ) : Type 0 where
  pub whole : IsTrue (is_whole bytes)
  pub short : length bytes ≤ 10
  pub value : number_of bytes ≡ n
  pub small : n < 2 ^ 64
