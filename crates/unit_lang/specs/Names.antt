-- The bytes of names and blanks.
use Rattle.std.specs.Prelude.{ℕ, Bool, false, ◌&&◌, ◌||◌, ◌==◌, nat_le, List, [], ◌∷◌, length}
use Rattle.std.specs.Char.{is_ascii_digit}
use Rattle.std.specs.List.{list_all}

-- a space or a tab
abbrev pub is_blank : ℕ → Bool
is_blank byte = byte == 32 || byte == 9

-- from low to high
abbrev pub is_from : ℕ → ℕ → ℕ → Bool
is_from low high byte = nat_le low byte && nat_le byte high

abbrev pub is_small_letter : ℕ → Bool
is_small_letter = is_from 97 122

-- what a name goes on with: a small letter, a digit or `_`
abbrev pub is_name_byte : ℕ → Bool
is_name_byte byte = is_small_letter byte || is_ascii_digit byte || byte == 95

-- a name: a small letter and what goes on, at most 64 bytes
abbrev pub is_name : List ℕ → Bool
is_name [] = false
is_name (byte ∷ bytes) = is_small_letter byte && list_all is_name_byte bytes && nat_le (length (byte ∷ bytes)) 64

-- decimal digits, at least one
abbrev pub are_digits : List ℕ → Bool
are_digits [] = false
are_digits (digit ∷ digits) = list_all is_ascii_digit (digit ∷ digits)

-- what a word token is made of: letters, digits, `_` and `.`
abbrev pub is_word_byte : ℕ → Bool
is_word_byte byte = is_name_byte byte || is_from 65 90 byte || byte == 46
