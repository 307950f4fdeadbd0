-- What stands between the quotes of a string, and the bytes that it spells.
use Rattle.std.specs.Prelude.{◌≡◌, ℕ, ◌≤◌, Bool, false, not, ◌&&◌, ◌||◌, ◌==◌, List, [], ◌∷◌, ◌++◌, length, Option, Some, None, IsTrue, if◌then◌else◌, encode_utf8}
use Rattle.std.specs.Char.{is_digit, IsScalar}
use Rattle.std.specs.List.{list_all}
use Rattle.std.specs.Str.Parse.{digits_value}

-- the byte that a letter after the backslash stands for: `\n`, `\r`, `\t`, `\s`, `\0`, `\e`, `\"`, `\\` and `\#`
abbrev pub letter_escape : ℕ → Option ℕ
letter_escape letter =
    if letter == 110 then Some 10
    else if letter == 114 then Some 13
    else if letter == 116 then Some 9
    else if letter == 115 then Some 32
    else if letter == 48 then Some 0
    else if letter == 101 then Some 27
    else if letter == 34 || letter == 92 || letter == 35 then Some letter
    else None

abbrev pub are_hex : List ℕ → Bool
are_hex digits = list_all (λ digit. is_digit digit 16) digits

-- what may follow a backslash, and the bytes that both spell
pub data Escape : List ℕ → List ℕ → Type 0 where
  by_letter : {letter byte : ℕ} → letter_escape letter ≡ Some byte → Escape (letter ∷ []) (byte ∷ [])
  -- `\xHH`, one byte
  by_byte : (high low : ℕ) → IsTrue (are_hex (high ∷ low ∷ [])) → Escape (120 ∷ high ∷ low ∷ []) (digits_value 16 (high ∷ low ∷ []) ∷ [])
  -- `\u{H..}`, a Unicode scalar value of one to six digits, as UTF-8
  by_scalar : (digits : List ℕ) → IsTrue (are_hex digits) → 1 ≤ length digits → length digits ≤ 6 → IsScalar (digits_value 16 digits) → Escape (117 ∷ 123 ∷ digits ++ 125 ∷ []) (encode_utf8 (digits_value 16 digits))

-- `#` before `{`, which would begin an interpolation
abbrev pub opens_interpolation : ℕ → List ℕ → Bool
opens_interpolation byte [] = false
opens_interpolation byte (next ∷ text) = byte == 35 && next == 123

-- what stands for itself in a string, given what follows it there
abbrev pub is_literal : ℕ → List ℕ → Bool
is_literal byte text = not (byte == 34 || byte == 92 || opens_interpolation byte text)

-- what stands between the quotes, and the bytes that it spells
pub data Quoted : List ℕ → List ℕ → Type 0 where
  end : Quoted [] []
  literal : {byte : ℕ} {text bytes : List ℕ} → IsTrue (is_literal byte text) → Quoted text bytes → Quoted (byte ∷ text) (byte ∷ bytes)
  escape : (word value : List ℕ) {text bytes : List ℕ} → Escape word value → Quoted text bytes → Quoted (92 ∷ word ++ text) (value ++ bytes)
