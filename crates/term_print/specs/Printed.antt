-- The text of a term, on one line.
use Rattle.std.specs.Prelude.{ℕ, Bool, true, not, ◌&&◌, ◌||◌, ◌==◌, nat_lt, nat_le, ◌/◌, ◌%◌, List, [], ◌∷◌, ◌++◌, map, Option, Some, None, is_some, unwrap_or, option_map, if◌then◌else◌, codes}
use Rattle.std.specs.List.{list_all}
use Rattle.std.specs.Str.{is_utf8}
use Rattle.std.specs.Fmt.{signed_decimal, digit_glyph}
use Rattle.term_values.specs.declared.term.Term.{Term}
use Rattle.term_values.specs.declared.term.Term.TheOpen.{Term-F}
use Rattle.term_values.specs.declared.term.Term.TheFolds.{fold-Term}
use Rattle.term_tokens.specs.Names.{is_name, is_bare_atom}
use Rattle.term_tokens.specs.Strings.{opens_interpolation}
use Rattle.term_values.specs.Views.{Pair}

-- what stands after a backslash for a byte that has an escape of its own: `\n`, `\r`, `\t`, `\e`, `\0`, `\"` and `\\`
abbrev pub letter_of : ℕ → Option ℕ
letter_of byte =
    if byte == 10 then Some 110
    else if byte == 13 then Some 114
    else if byte == 9 then Some 116
    else if byte == 27 then Some 101
    else if byte == 0 then Some 48
    else if byte == 34 || byte == 92 then Some byte
    else None

-- a byte that isn't shown as it is: a control byte, and in a string that isn't UTF-8 any from 128 on
abbrev pub is_hidden : Bool → ℕ → Bool
is_hidden utf8 byte = nat_lt byte 32 || byte == 127 || (nat_le 128 byte && not utf8)

-- a byte by its two digits, as `\x7F`
abbrev pub by_digits : ℕ → List ℕ
by_digits byte = 92 ∷ 120 ∷ digit_glyph true (byte / 16) ∷ digit_glyph true (byte % 16) ∷ []

-- what stands for a byte that has no letter, given the bytes that follow it
abbrev pub without_letter : Bool → ℕ → List ℕ → List ℕ
without_letter utf8 byte rest =
    if opens_interpolation byte rest then 92 ∷ byte ∷ []
    else if is_hidden utf8 byte then by_digits byte
    else byte ∷ []

-- what stands for a byte in a string
abbrev pub escape : Bool → ℕ → List ℕ → List ℕ
escape utf8 byte rest = unwrap_or (option_map (λ letter. 92 ∷ letter ∷ []) (letter_of byte)) (without_letter utf8 byte rest)

-- what stands for bytes, which are part of a string that is UTF-8 or not
abbrev pub escaped : Bool → List ℕ → List ℕ
escaped utf8 [] = []
escaped utf8 (byte ∷ rest) = escape utf8 byte rest ++ escaped utf8 rest

-- a string in quotes
abbrev pub quoted : List ℕ → List ℕ
quoted bytes = 34 ∷ escaped (is_utf8 bytes) bytes ++ 34 ∷ []

-- an atom's text without its colon, in quotes where it is no name
abbrev pub name_text : List ℕ → List ℕ
name_text name = if is_name name then name else quoted name

-- an atom
abbrev pub atom_text : List ℕ → List ℕ
atom_text name = if is_bare_atom name then name else 58 ∷ name_text name

-- an atom as a keyword's key, with its colon and a space
abbrev pub key_text : List ℕ → List ℕ
key_text name = name_text name ++ 58 ∷ 32 ∷ []

-- the texts of parts: this before the first, and a comma and a space before each other
abbrev pub separated : List ℕ → List (List ℕ) → List ℕ
separated before [] = []
separated before (part ∷ parts) = before ++ part ++ separated (44 ∷ 32 ∷ []) parts

-- the texts of parts with commas between them
abbrev pub joined : List (List ℕ) → List ℕ
joined parts = separated [] parts

-- a term as it is shown: its text; an atom as a keyword's key; a tuple of two with an atom first as a keyword
pub record Shown : Type 0 where
  pub text : List ℕ
  pub key : Option (List ℕ)
  pub keyword : Option (List ℕ)

abbrev pub plain : List ℕ → Shown
plain text = record { text = text; key = None; keyword = None }

abbrev pub keyword_of : List Shown → Option (List ℕ)
keyword_of (key ∷ value ∷ []) = option_map (λ text. text ++ value.text) key.key
keyword_of parts = None

-- what stands between the brackets of a list: keywords, where each part is one
abbrev pub list_inside : List Shown → List ℕ
list_inside parts =
    if list_all (λ p. is_some p.keyword) parts then joined (map (λ p. unwrap_or p.keyword []) parts)
    else joined (map (λ p. p.text) parts)

-- what stands between the brackets of a map: keywords, where each key is an atom
abbrev pub map_inside : List (Shown × Shown) → List ℕ
map_inside pairs =
    if list_all (λ p. is_some p.0.key) pairs then joined (map (λ p. unwrap_or p.0.key [] ++ p.1.text) pairs)
    else joined (map (λ p. p.0.text ++ codes " => " ++ p.1.text) pairs)

-- a term, of whose parts it is known how they are shown
abbrev pub show_step : Term-F Shown → Shown
show_step (Term-F.Atom name) = record { text = atom_text name; key = Some (key_text name); keyword = None }
show_step (Term-F.Int n) = plain (signed_decimal n)
show_step (Term-F.Str bytes) = plain (quoted bytes)
show_step (Term-F.List parts) = plain (91 ∷ list_inside parts ++ 93 ∷ [])
show_step (Term-F.Tuple parts) = record { text = 123 ∷ joined (map (λ p. p.text) parts) ++ 125 ∷ []; key = None; keyword = keyword_of parts }
show_step (Term-F.Map pairs) = plain (37 ∷ 123 ∷ map_inside pairs ++ 125 ∷ [])

-- how a term is shown
abbrev pub shown : Term → Shown
shown = fold-Term Shown show_step

abbrev pub shown_pair : Pair → Shown × Shown
shown_pair pair = (shown pair.0, shown pair.1)

-- the text of a term
abbrev pub printed : Term → List ℕ
printed t = (shown t).text

-- a term as a keyword's key, and as a keyword: nothing where it is none
abbrev pub printed_key : Term → List ℕ
printed_key t = unwrap_or (shown t).key []

abbrev pub printed_keyword : Term → List ℕ
printed_keyword t = unwrap_or (shown t).keyword []

abbrev pub printed_entry : Pair → List ℕ
printed_entry pair = printed pair.0 ++ codes " => " ++ printed pair.1

abbrev pub printed_field : Pair → List ℕ
printed_field pair = printed_key pair.0 ++ printed pair.1
