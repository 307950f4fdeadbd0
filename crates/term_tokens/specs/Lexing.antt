-- The first token of a text, as a function. What a token is is said without it (Tokens.antt).
use Rattle.std.specs.Prelude.{ℕ, zero, suc, ◌+◌, ◌^◌, Bool, true, false, ◌&&◌, ◌||◌, ◌==◌, nat_lt, List, [], ◌∷◌, ◌++◌, take, drop, Option, Some, None, option_map, if◌then◌else◌, encode_utf8, ℤ, pos, neg_ℤ, ◌≤ℤ◌, ◌<ℤ◌}
use Rattle.std.specs.Char.{is_digit}
use Rattle.std.specs.List.{list_all}
use Rattle.std.specs.Str.{is_utf8, all_scalars}
use Rattle.std.specs.Str.Parse.{digits_value}
use Rattle.term_tokens.specs.declared.bracket.Bracket.TheVariants as bracket
use Rattle.term_tokens.specs.declared.token.Closing.TheVariants.{Square, Curly}
use Rattle.term_tokens.specs.declared.token.Token.{Token}
use Rattle.term_tokens.specs.declared.token.Token.TheVariants.{Atom, Int, Str, Words, Key, Open, Close, Comma, Arrow}
use Rattle.term_tokens.specs.declared.strings.Spelled.{Spelled}
use Rattle.term_tokens.specs.declared.strings.Spelled.TheVariants.{Byte, Scalar}
use Rattle.term_tokens.specs.declared.token.WordKind.{WordKind}
use Rattle.term_tokens.specs.declared.token.WordKind.TheVariants.{Strings, Atoms}
use Rattle.term_tokens.specs.Names.{is_name_start, is_name_byte, is_name_mark, is_bare_atom, is_blank}
use Rattle.term_tokens.specs.Strings.{letter_escape, are_hex, opens_interpolation}
use Rattle.term_tokens.specs.Tokens.{line_end}

-- what a reading finds: a value and the text after it
abbrev pub Found : Type 0 → Type 0
Found X = Option (X × List ℕ)

-- the text after the blank or the comment that it begins with
abbrev pub past_blank : List ℕ → Option (List ℕ)
past_blank [] = None
past_blank (byte ∷ text) = if byte == 35 then Some (line_end text) else (if is_blank byte then Some text else None)

-- names

-- how many bytes at the front may go on a name
abbrev pub name_rest_len : List ℕ → ℕ
name_rest_len [] = 0
name_rest_len (byte ∷ text) = if is_name_mark byte then 1 else (if is_name_byte byte then suc (name_rest_len text) else 0)

-- how many bytes the longest name at the front has: 0 where there is none
abbrev pub name_len : List ℕ → ℕ
name_len [] = 0
name_len (byte ∷ text) = if is_name_start byte then suc (name_rest_len text) else 0

-- an atom's name, after its colon
abbrev pub name_atom_of : ℕ → List ℕ → Found Token
name_atom_of len text = if len == 0 then None else Some (Atom (take len text), drop len text)

abbrev pub name_atom_at : List ℕ → Found Token
name_atom_at text = name_atom_of (name_len text) text

-- the text after the colon and the blank byte of a key
abbrev pub after_colon : List ℕ → Option (List ℕ)
after_colon [] = None
after_colon (colon ∷ []) = None
after_colon (colon ∷ blank ∷ rest) = if colon == 58 && is_blank blank then Some rest else None

-- a key, or an atom without a colon
abbrev pub key_or_atom : List ℕ → List ℕ → Option (List ℕ) → Found Token
key_or_atom name rest (Some after) = Some (Key name, after)
key_or_atom name rest None = if is_bare_atom name then Some (Atom name, rest) else None

abbrev pub name_of : ℕ → List ℕ → Found Token
name_of len text = if len == 0 then None else key_or_atom (take len text) (drop len text) (after_colon (drop len text))

abbrev pub name_at : List ℕ → Found Token
name_at text = name_of (name_len text) text

-- strings

-- how many hexadecimal digits stand at the front
abbrev pub hex_len : List ℕ → ℕ
hex_len [] = 0
hex_len (byte ∷ text) = if is_digit byte 16 then suc (hex_len text) else 0

abbrev pub spelled : Spelled → List ℕ
spelled (Byte byte) = byte ∷ []
spelled (Scalar scalar) = encode_utf8 scalar

-- the scalar value of that number
abbrev pub scalar_only : ℕ → Option ℕ
scalar_only value = if all_scalars (value ∷ []) then Some value else None

-- what an escape spells and how many bytes it has

-- two hexadecimal digits, after `x`
abbrev pub byte_escape_at : List ℕ → Option (List ℕ × ℕ)
byte_escape_at [] = None
byte_escape_at (high ∷ []) = None
byte_escape_at (high ∷ low ∷ text) = if are_hex (high ∷ low ∷ []) then Some (digits_value 16 (high ∷ low ∷ []) ∷ [], 3) else None

abbrev pub scalar_before : ℕ → ℕ → List ℕ → Option (List ℕ × ℕ)
scalar_before value len [] = None
scalar_before value len (brace ∷ text) = if brace == 125 then option_map (λ scalar. (encode_utf8 scalar, len + 3)) (scalar_only value) else None

-- so many digits and `}`, after `u{`
abbrev pub scalar_of : ℕ → List ℕ → Option (List ℕ × ℕ)
scalar_of len text = if len == 0 || nat_lt 6 len then None else scalar_before (digits_value 16 (take len text)) len (drop len text)

abbrev pub scalar_escape_at : List ℕ → Option (List ℕ × ℕ)
scalar_escape_at [] = None
scalar_escape_at (brace ∷ text) = if brace == 123 then scalar_of (hex_len text) text else None

-- after the backslash
abbrev pub escape_at : List ℕ → Option (List ℕ × ℕ)
escape_at [] = None
escape_at (letter ∷ text) = if letter == 120 then byte_escape_at text else (if letter == 117 then scalar_escape_at text else option_map (λ byte. (byte ∷ [], 1)) (letter_escape letter))

-- with these bytes before those that are found
abbrev pub before : List ℕ → Found (List ℕ) → Found (List ℕ)
before value found = option_map (λ f. (value ++ f.0, f.1)) found

abbrev pub escaped : Option (List ℕ × ℕ) → (ℕ → Found (List ℕ)) → Found (List ℕ)
escaped None more = None
escaped (Some found) more = before found.0 (more found.1)

-- the bytes that a string spells and the text after its closing quote, where some bytes are read already
abbrev pub quoted_past : List ℕ → ℕ → Found (List ℕ)
quoted_past [] read = None
quoted_past (byte ∷ text) (suc read) = quoted_past text read
quoted_past (byte ∷ text) zero = if byte == 34 then Some ([], text) else (if byte == 92 then escaped (escape_at text) (quoted_past text) else (if opens_interpolation byte text then None else before (byte ∷ []) (quoted_past text 0)))

-- after the opening quote
abbrev pub quoted_at : List ℕ → Found (List ℕ)
quoted_at text = quoted_past text 0

abbrev pub after_escape : Option (List ℕ × ℕ) → List ℕ → Found (List ℕ)
after_escape word text = option_map (λ f. (f.0, drop f.1 text)) word

-- what the first byte or escape of a string's inside spells
abbrev pub next_at : List ℕ → Found (List ℕ)
next_at [] = None
next_at (byte ∷ text) = if byte == 34 then None else (if byte == 92 then after_escape (escape_at text) text else (if opens_interpolation byte text then None else Some (byte ∷ [], text)))

abbrev pub utf8_only : List ℕ → Option (List ℕ)
utf8_only bytes = if is_utf8 bytes then Some bytes else None

abbrev pub quoted_atom_of : Found (List ℕ) → Found Token
quoted_atom_of None = None
quoted_atom_of (Some found) = option_map (λ name. (Atom name, found.1)) (utf8_only found.0)

-- a quoted atom, after its opening quote
abbrev pub quoted_atom_at : List ℕ → Found Token
quoted_atom_at text = quoted_atom_of (quoted_at text)

abbrev pub key_or_string : List ℕ → List ℕ → Option (List ℕ) → Found Token
key_or_string bytes rest (Some after) = option_map (λ key. (Key key, after)) (utf8_only bytes)
key_or_string bytes rest None = Some (Str bytes, rest)

abbrev pub string_of : Found (List ℕ) → Found Token
string_of None = None
string_of (Some found) = key_or_string found.0 found.1 (after_colon found.1)

-- a string or a quoted key, after its opening quote
abbrev pub string_at : List ℕ → Found Token
string_at text = string_of (quoted_at text)

-- integers

-- how many bytes of names stand at the front
abbrev pub run_len : List ℕ → ℕ
run_len [] = 0
run_len (byte ∷ text) = if is_name_byte byte then suc (run_len text) else 0

-- the base that a numeral's first bytes say, and what follows them
abbrev pub base_of : List ℕ → ℕ × List ℕ
base_of [] = (10, [])
base_of (first ∷ []) = (10, first ∷ [])
base_of (first ∷ mark ∷ digits) =
    if first == 48 && mark == 120 then (16, digits)
    else (if first == 48 && mark == 111 then (8, digits)
    else (if first == 48 && mark == 98 then (2, digits)
    else (10, first ∷ mark ∷ digits)))

-- the digits without the single `_` between them, where a digit stands before them or none
abbrev pub digits_from : ℕ → Bool → List ℕ → Option (List ℕ)
digits_from base after [] = if after then Some [] else None
digits_from base after (byte ∷ text) = if is_digit byte base then option_map (λ digits. byte ∷ digits) (digits_from base true text) else (if byte == 95 && after then digits_from base false text else None)

-- the number that a numeral writes
abbrev pub numeral_of : List ℕ → Option ℕ
numeral_of word = option_map (digits_value (base_of word).0) (digits_from (base_of word).0 false (base_of word).1)

abbrev pub signed : Bool → ℕ → ℤ
signed false n = pos n
signed true n = neg_ℤ (pos n)

-- the sign before the digits
abbrev pub minus : Bool → List ℕ
minus false = []
minus true = 45 ∷ []

-- one digit of the base or more
abbrev pub are_digits : ℕ → List ℕ → Bool
are_digits base [] = false
are_digits base (digit ∷ digits) = list_all (λ d. is_digit d base) (digit ∷ digits)

-- digits, perhaps after a `-`
abbrev pub are_signed_digits : ℕ → List ℕ → Bool
are_signed_digits base [] = false
are_signed_digits base (first ∷ digits) = if first == 45 then are_digits base digits else are_digits base (first ∷ digits)

-- the number that they write
abbrev pub signed_value : ℕ → List ℕ → ℤ
signed_value base [] = pos 0
signed_value base (first ∷ digits) = if first == 45 then neg_ℤ (pos (digits_value base digits)) else pos (digits_value base (first ∷ digits))

abbrev pub integer_of : Bool → List ℕ → Found Token
integer_of negative text = option_map (λ n. (Int (signed negative n), drop (run_len text) text)) (numeral_of (take (run_len text) text))

abbrev pub integer_at : List ℕ → Found Token
integer_at [] = None
integer_at (byte ∷ text) = if byte == 45 then integer_of true text else integer_of false (byte ∷ text)

-- words

-- how many bytes at the front may stand between the parentheses
abbrev pub inside_len : List ℕ → ℕ
inside_len [] = 0
inside_len (byte ∷ text) = if byte == 41 || byte == 92 || opens_interpolation byte text then 0 else suc (inside_len text)

-- what the modifier at the front says of the words, and the text after it
abbrev pub kind_of : List ℕ → WordKind × List ℕ
kind_of [] = (Strings, [])
kind_of (byte ∷ text) = if byte == 115 then (Strings, text) else (if byte == 97 then (Atoms, text) else (Strings, byte ∷ text))

-- with this word before the others, unless it is empty
abbrev pub flushed : List ℕ → List (List ℕ) → List (List ℕ)
flushed [] words = words
flushed (byte ∷ word) words = (byte ∷ word) ∷ words

-- the text, cut into words at runs of blanks, where the first word has begun already
abbrev pub words_from : List ℕ → List ℕ → List (List ℕ)
words_from word [] = flushed word []
words_from word (byte ∷ text) = if is_blank byte then flushed word (words_from [] text) else words_from (word ++ byte ∷ []) text

abbrev pub words_before : List ℕ → List ℕ → Found Token
words_before inside [] = None
words_before inside (end ∷ text) = if end == 41 then Some (Words (kind_of text).0 (words_from [] inside), (kind_of text).1) else None

-- words, after the opening parenthesis
abbrev pub words_in : List ℕ → Found Token
words_in text = words_before (take (inside_len text) text) (drop (inside_len text) text)

-- words, after their `~`
abbrev pub words_at : List ℕ → Found Token
words_at [] = None
words_at (letter ∷ []) = None
words_at (letter ∷ paren ∷ text) = if letter == 119 && paren == 40 then words_in text else None

-- all tokens

-- a token whose second byte this is
abbrev pub second_at : ℕ → Token → List ℕ → Found Token
second_at byte token [] = None
second_at byte token (next ∷ text) = if next == byte then Some (token, text) else None

-- a bracket, a comma or an arrow
abbrev pub sign_at : List ℕ → Found Token
sign_at [] = None
sign_at (byte ∷ text) =
    if byte == 91 then Some (Open bracket.List, text)
    else (if byte == 93 then Some (Close Square, text)
    else (if byte == 123 then Some (Open bracket.Tuple, text)
    else (if byte == 125 then Some (Close Curly, text)
    else (if byte == 37 then second_at 123 (Open bracket.Map) text
    else (if byte == 44 then Some (Comma, text)
    else (if byte == 61 then second_at 62 Arrow text
    else None))))))

-- an atom, after its colon
abbrev pub atom_at : List ℕ → Found Token
atom_at [] = None
atom_at (byte ∷ text) = if byte == 34 then quoted_atom_at text else name_atom_at (byte ∷ text)

abbrev pub sign_or_name : Found Token → List ℕ → Found Token
sign_or_name (Some found) text = Some found
sign_or_name None text = name_at text

-- the token that a text begins with, and the text after it
abbrev pub first_token : List ℕ → Found Token
first_token [] = None
first_token (byte ∷ text) =
    if byte == 58 then atom_at text
    else (if byte == 34 then string_at text
    else (if byte == 126 then words_at text
    else (if byte == 45 || is_digit byte 10 then integer_at (byte ∷ text)
    else sign_or_name (sign_at (byte ∷ text)) (byte ∷ text))))

-- what is read of it

-- an integer of the token has 128 bits
abbrev pub IsNarrow : Token → Type 0
IsNarrow (Int n) = (neg_ℤ (pos (2 ^ 127)) ≤ℤ n) × (n <ℤ pos (2 ^ 127))
IsNarrow token = Unit {0}

-- the token is an integer outside 128 bits
abbrev pub IsWide : Token → Type 0
IsWide (Int n) = IsNarrow (Int n) → ⊥
IsWide token = ⊥
