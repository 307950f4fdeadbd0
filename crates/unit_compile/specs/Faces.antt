-- The file in which a unit tells others its values: its face.
use Rattle.std.specs.Prelude.{ℕ, suc, ◌==◌, Bool, ◌&&◌, nat_eq, nat_lt, ℤ, pos, negsuc, List, [], ◌∷◌, ◌++◌, flat_map, take, drop, length, Option, Some, None, option_map, option_and_then, codes, bytes_eq, if◌then◌else◌}
use Rattle.std.specs.Fmt.{signed_decimal}
use Rattle.std.specs.List.{slice_split, starts_with}
use Rattle.std.specs.Option.{option_or}
use Rattle.std.specs.Ordering.{is_lt}
use Rattle.std.specs.Str.Parse.{signed_digits_value}
use Rattle.mx_base.specs.Order.{text_cmp}
use Rattle.unit_lang.specs.Names.{is_name}

-- a name and its value
abbrev pub Export : Type 0
Export = List ℕ × ℤ

-- each export is a line, `NAME = VALUE`
abbrev pub face_line : Export → List ℕ
face_line export = export.0 ++ codes " = " ++ signed_decimal export.1 ++ codes "\n"

abbrev pub face_text : List Export → List ℕ
face_text exports = flat_map face_line exports

-- the name of the file
abbrev pub face_name : List ℕ → List ℕ
face_name unit = unit ++ codes ".face"

-- from -2^63 to 2^63 - 1
abbrev pub fits : ℤ → Bool
fits (pos n) = nat_lt n 9223372036854775808
fits (negsuc n) = nat_lt n 9223372036854775808

-- the number that a text is the decimal of, where it is of one
abbrev pub number_if : List ℕ → ℤ → Option ℤ
number_if text z = if bytes_eq (signed_decimal z) text && fits z then Some z else None

abbrev pub number_in : List ℕ → Option ℤ
number_in text = number_if text (signed_digits_value 10 text)

-- what a line tells: a name, and what follows the name
abbrev pub export_with : List ℕ → List ℕ → Option Export
export_with name rest = if is_name name && starts_with nat_eq rest (codes " = ") then option_map (λ z. (name, z)) (number_in (drop 3 rest)) else None

-- how long the name is that a line begins with
abbrev pub name_len : List ℕ → ℕ
name_len [] = 0
name_len (byte ∷ line) = if byte == 32 then 0 else suc (name_len line)

abbrev pub export_in : List ℕ → Option Export
export_in line = export_with (take (name_len line) line) (drop (name_len line) line)

-- an export that stands after one of this name, and those that follow it
abbrev pub onto : List ℕ → Option Export → (List ℕ → Option (List Export)) → Option (List Export)
onto before None rest = None
onto before (Some export) rest = if is_lt (text_cmp before export.0) then option_map (λ exports. export ∷ exports) (rest export.0) else None

-- what lines tell that stand after the line of this name: each name comes after the one before it. What stands
-- behind the last newline is empty
abbrev pub exports_after : List ℕ → List (List ℕ) → Option (List Export)
exports_after before [] = None
exports_after before (line ∷ lines) =
    if length lines == 0 then (if length line == 0 then Some [] else None)
    else onto before (export_in line) (λ name. exports_after name lines)

-- the exports that a face tells, where the text has the form of one
abbrev pub exports_in : List ℕ → Option (List Export)
exports_in text = exports_after [] (slice_split (λ byte. byte == 10) text)

-- the value of a name, which stands once
abbrev pub value_of : List Export → List ℕ → Option ℤ
value_of [] name = None
value_of (export ∷ exports) name = option_or (value_of exports name) (if bytes_eq export.0 name then Some export.1 else None)
