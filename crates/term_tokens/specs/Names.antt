-- The bytes of names and blanks.
use Rattle.std.specs.Prelude.{ℕ, Bool, true, false, ◌&&◌, ◌||◌, ◌==◌, nat_le, List, [], ◌∷◌, codes}
use Rattle.std.specs.Str.{bytes_eq}

-- from low to high
abbrev pub is_from : ℕ → ℕ → ℕ → Bool
is_from low high byte = nat_le low byte && nat_le byte high

-- A to Z or a to z
abbrev pub is_letter : ℕ → Bool
is_letter byte = is_from 65 90 byte || is_from 97 122 byte

-- what a name may begin with: a letter or `_`
abbrev pub is_name_start : ℕ → Bool
is_name_start byte = is_letter byte || byte == 95

-- what a name may go on with: also a digit or `@`
abbrev pub is_name_byte : ℕ → Bool
is_name_byte byte = is_name_start byte || is_from 48 57 byte || byte == 64

-- `?` or `!`, which may end a name
abbrev pub is_name_mark : ℕ → Bool
is_name_mark byte = byte == 63 || byte == 33

-- what may follow the first byte of a name
abbrev pub is_name_rest : List ℕ → Bool
is_name_rest [] = true
is_name_rest (byte ∷ []) = is_name_byte byte || is_name_mark byte
is_name_rest (byte ∷ next ∷ bytes) = is_name_byte byte && is_name_rest (next ∷ bytes)

-- a name
abbrev pub is_name : List ℕ → Bool
is_name [] = false
is_name (byte ∷ bytes) = is_name_start byte && is_name_rest bytes

-- the names that are atoms without a colon
abbrev pub is_bare_atom : List ℕ → Bool
is_bare_atom name = bytes_eq name (codes "true") || bytes_eq name (codes "false") || bytes_eq name (codes "nil")

-- a space, a tab, a carriage return or a line feed
abbrev pub is_blank : ℕ → Bool
is_blank byte = byte == 32 || byte == 9 || byte == 13 || byte == 10
