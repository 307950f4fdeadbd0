-- How integers are written.
use Rattle.std.specs.Prelude.{ℕ, List, [], ◌∷◌, IsTrue, ℤ, pos, neg_ℤ}
use Rattle.std.specs.Char.{is_digit}
use Rattle.std.specs.Str.Parse.{digits_value}

-- digits of a base, with single `_` between some of them
pub data Grouped : ℕ → List ℕ → List ℕ → Type 0 where
  last : {base digit : ℕ} → IsTrue (is_digit digit base) → Grouped base (digit ∷ []) (digit ∷ [])
  next : {base digit : ℕ} {text digits : List ℕ} → IsTrue (is_digit digit base) → Grouped base text digits → Grouped base (digit ∷ text) (digit ∷ digits)
  mark : {base digit : ℕ} {text digits : List ℕ} → IsTrue (is_digit digit base) → Grouped base text digits → Grouped base (digit ∷ 95 ∷ text) (digit ∷ digits)

-- decimal digits, `0x` and hexadecimal ones, `0o` and octal ones, `0b` and binary ones
pub data Numeral : List ℕ → ℕ → Type 0 where
  decimal : {text digits : List ℕ} → Grouped 10 text digits → Numeral text (digits_value 10 digits)
  hexadecimal : {text digits : List ℕ} → Grouped 16 text digits → Numeral (48 ∷ 120 ∷ text) (digits_value 16 digits)
  octal : {text digits : List ℕ} → Grouped 8 text digits → Numeral (48 ∷ 111 ∷ text) (digits_value 8 digits)
  binary : {text digits : List ℕ} → Grouped 2 text digits → Numeral (48 ∷ 98 ∷ text) (digits_value 2 digits)

-- a numeral, or `-` directly before one
pub data Integer : List ℕ → ℤ → Type 0 where
  plain : {text : List ℕ} {n : ℕ} → Numeral text n → Integer text (pos n)
  negative : {text : List ℕ} {n : ℕ} → Numeral text n → Integer (45 ∷ text) (neg_ℤ (pos n))
