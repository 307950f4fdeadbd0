-- What the lexer answers, as a function. What a token and a refusal are is said without it (Tokens.antt, Local.antt).
use Rattle.std.specs.Prelude.{◌≡◌, ℕ, zero, suc, ◌^◌, ◌+◌, ◌*◌, Bool, true, false, not, ◌&&◌, ◌||◌, ◌==◌, List, [], ◌∷◌, ◌++◌, length, take, drop, Option, Some, None, if◌then◌else◌, codes, IsFalse, nat_lt, ℤ, pos, negsuc, Result, Ok, Err}
use Rattle.std.specs.Char.{is_digit, digit_value, is_ascii_digit}
use Rattle.std.specs.Str.{is_utf8}
use Rattle.std.specs.Str.Parse.{digits_value}
use Rattle.term_tokens.specs.declared.bracket.Bracket.TheVariants as bracket
use Rattle.term_tokens.specs.declared.fault.Fault.{Fault}
use Rattle.term_tokens.specs.declared.cause.Feature.TheVariants.{Charlist, Sigil, Heredoc, Interpolation, Float, Alias, Bits}
use Rattle.term_tokens.specs.declared.cause.TermCause.{TermCause}
use Rattle.term_tokens.specs.declared.cause.TermCause.TheVariants.{Unsupported, BadEscape, BadUtf8, NumberTooBig, TrailingText, Unclosed, Unexpected}
use Rattle.term_tokens.specs.declared.expected.Expected.{Expected}
use Rattle.term_tokens.specs.declared.token.Closing.TheVariants.{Square, Curly}
use Rattle.term_tokens.specs.declared.token.Token.{Token}
use Rattle.term_tokens.specs.declared.token.Token.TheVariants.{Atom, Int, Str, Words, Key, Open, Close, Comma, Arrow}
use Rattle.term_tokens.specs.Lexing.{name_len, after_colon, utf8_only, escape_at, base_of, signed, inside_len, kind_of, words_from}
use Rattle.term_tokens.specs.Local.{starts_with, is_closing}
use Rattle.term_tokens.specs.Names.{is_from, is_name_start, is_bare_atom}
use Rattle.term_tokens.specs.Refused.{is_memory}
use Rattle.term_tokens.specs.Strings.{opens_interpolation}
use Rattle.term_tokens.specs.Tokens.{ends_integer}

-- a token and the text after it, or the text from where the lexer stops on, and why it stops
abbrev pub Lexed : Type 0
Lexed = Result (Token × List ℕ) (List ℕ × TermCause)

-- the same with the number of bytes from there on
abbrev pub measured : Lexed → Result (Token × List ℕ) (ℕ × TermCause)
measured (Ok found) = Ok found
measured (Err stop) = Err (length stop.0, stop.1)

-- a result is the answer, unless memory ran out
abbrev pub LexedBy : {X : Type 0} → (X → Token × List ℕ) → Result X Fault → Lexed → Type 0
LexedBy view (Ok x) answer = measured answer ≡ Ok (view x)
LexedBy view (Err fault) answer = IsFalse (is_memory fault.cause) → measured answer ≡ Err (fault.left, fault.cause)

-- what begins here can't go on so
abbrev pub cut_off : List ℕ → Lexed
cut_off [] = Err ([], Unclosed)
cut_off (byte ∷ text) = Err (byte ∷ text, Unexpected)

-- nothing that may stand here begins so
abbrev pub wanted : Bool → List ℕ → Lexed → Lexed
wanted may text answer = if may then answer else Err (text, Unexpected)

-- signs

-- a token whose second byte this is
abbrev pub second_lexed : ℕ → Token → List ℕ → Lexed
second_lexed byte token [] = Err ([], Unclosed)
second_lexed byte token (next ∷ text) = if next == byte then Ok (token, text) else Err (next ∷ text, Unexpected)

-- something that begins with this sign may stand here
abbrev pub wants_sign : Expected → ℕ → Bool
wants_sign e byte =
    if byte == 91 || byte == 123 || byte == 37 || byte == 39 || byte == 60 then e.term
    else (if byte == 93 then is_closing e.closing Square
    else (if byte == 125 then is_closing e.closing Curly
    else (if byte == 44 then e.comma
    else (if byte == 61 then e.arrow
    else false))))

-- such a sign where it may stand
abbrev pub wanted_sign : ℕ → List ℕ → Lexed
wanted_sign byte text =
    if byte == 91 then Ok (Open bracket.List, text)
    else (if byte == 93 then Ok (Close Square, text)
    else (if byte == 123 then Ok (Open bracket.Tuple, text)
    else (if byte == 125 then Ok (Close Curly, text)
    else (if byte == 44 then Ok (Comma, text)
    else (if byte == 37 then second_lexed 123 (Open bracket.Map) text
    else (if byte == 61 then second_lexed 62 Arrow text
    else (if byte == 39 then Err (byte ∷ text, Unsupported Charlist)
    else (if starts_with 60 text then Err (byte ∷ text, Unsupported Bits)
    else Err (byte ∷ text, Unexpected)))))))))

-- a bracket, a comma or an arrow, or what is not read
abbrev pub sign_lexed : Expected → List ℕ → Lexed
sign_lexed e [] = Err ([], Unclosed)
sign_lexed e (byte ∷ text) = wanted (wants_sign e byte) (byte ∷ text) (wanted_sign byte text)

-- names

abbrev pub is_capital : List ℕ → Bool
is_capital [] = false
is_capital (byte ∷ text) = is_from 65 90 byte

-- the atom without a colon that begins with this byte
abbrev pub bare_word : ℕ → List ℕ
bare_word byte = if byte == 116 then codes "true" else (if byte == 102 then codes "false" else (if byte == 110 then codes "nil" else []))

-- the text after what it begins with as the word does
abbrev pub after_common : List ℕ → List ℕ → List ℕ
after_common [] text = text
after_common (letter ∷ word) [] = []
after_common (letter ∷ word) (byte ∷ text) = if byte == letter then after_common word text else byte ∷ text

abbrev pub after_bare : List ℕ → List ℕ
after_bare [] = []
after_bare (byte ∷ text) = after_common (bare_word byte) (byte ∷ text)

-- a whole term of the text's own, and a colon after it, or another colon that may not stand there
abbrev pub stray_colon : Expected → List ℕ → Lexed
stray_colon e text = Err (text, if e.outermost then TrailingText else Unexpected)

-- a name that is no keyword's key, where a key may begin
abbrev pub no_key : Expected → List ℕ → List ℕ → Lexed
no_key e name rest = if starts_with 58 rest then cut_off (drop 1 rest) else (if e.term && is_bare_atom name then Ok (Atom name, rest) else cut_off rest)

abbrev pub key_lexed : Expected → List ℕ → List ℕ → List ℕ → Option (List ℕ) → Lexed
key_lexed e text name rest (Some after) = Ok (Key name, after)
key_lexed e text name rest None = if is_capital text then Err (text, Unsupported Alias) else no_key e name rest

-- a name where no key may begin
abbrev pub bare_lexed : Expected → List ℕ → List ℕ → List ℕ → Lexed
bare_lexed e text name rest =
    if is_capital text then Err (text, Unsupported Alias)
    else (if is_bare_atom name then (if starts_with 58 rest then stray_colon e rest else Ok (Atom name, rest))
    else cut_off (after_bare text))

abbrev pub named : Expected → List ℕ → List ℕ → List ℕ → Lexed
named e text name rest = if e.key then key_lexed e text name rest (after_colon rest) else wanted e.term text (bare_lexed e text name rest)

-- a keyword's key or an atom without a colon
abbrev pub name_lexed : Expected → List ℕ → Lexed
name_lexed e text = named e text (take (name_len text) text) (drop (name_len text) text)

-- strings

abbrev pub Spelt : Type 0
Spelt = List ℕ × List ℕ

abbrev pub with_bytes : List ℕ → Spelt → Spelt
with_bytes value spelt = (value ++ spelt.0, spelt.1)

abbrev pub past_escape : List ℕ → Option (List ℕ × ℕ) → (ℕ → Spelt) → Spelt
past_escape text None more = ([], text)
past_escape text (Some word) more = with_bytes word.0 (more word.1)

-- the bytes that a string spells up to where nothing more is spelled, and the text from there on; some bytes are
-- read already
abbrev pub spelt_past : List ℕ → ℕ → Spelt
spelt_past [] read = ([], [])
spelt_past (byte ∷ text) (suc read) = spelt_past text read
spelt_past (byte ∷ text) zero = if byte == 34 then ([], byte ∷ text) else (if byte == 92 then past_escape (byte ∷ text) (escape_at text) (spelt_past text) else (if opens_interpolation byte text then ([], byte ∷ text) else with_bytes (byte ∷ []) (spelt_past text 0)))

-- after the opening quote
abbrev pub spelt_at : List ℕ → Spelt
spelt_at text = spelt_past text 0

-- where bytes can no more become UTF-8

-- the bytes are UTF-8, or may become so with bytes after them
abbrev pub can_become : List ℕ → Bool
can_become bytes = is_utf8 bytes || (is_utf8 (bytes ++ 128 ∷ []) || (is_utf8 (bytes ++ 128 ∷ 128 ∷ []) || (is_utf8 (bytes ++ 128 ∷ 128 ∷ 128 ∷ []) || (is_utf8 (bytes ++ 160 ∷ 128 ∷ []) || is_utf8 (bytes ++ 144 ∷ 128 ∷ 128 ∷ [])))))

-- what the byte or the escape at the front spells, and how many bytes it has after its first
abbrev pub item_at : ℕ → List ℕ → Option (List ℕ × ℕ)
item_at byte text = if byte == 34 then None else (if byte == 92 then escape_at text else (if opens_interpolation byte text then None else Some (byte ∷ [], 0)))

-- some byte with this high digit, and a low one under the limit, may follow the bytes
unfoldable pub some_low : List ℕ → ℕ → ℕ → Bool
some_low bytes high zero = false
some_low bytes high (suc low) = can_become (bytes ++ (high * 16 + low) ∷ []) || some_low bytes high low

-- the text from the first byte on with which nothing may follow the bytes: after `\x`
abbrev pub stuck_digit : List ℕ → List ℕ → List ℕ
stuck_digit bytes [] = []
stuck_digit bytes (high ∷ text) = if is_digit high 16 && some_low bytes (digit_value high) 16 then text else high ∷ text

-- after a backslash
abbrev pub stuck_letter : List ℕ → List ℕ → List ℕ
stuck_letter bytes [] = []
stuck_letter bytes (letter ∷ text) = if letter == 120 then stuck_digit bytes text else letter ∷ text

-- at a byte or an escape
abbrev pub stuck_item : List ℕ → List ℕ → List ℕ
stuck_item bytes [] = []
stuck_item bytes (byte ∷ text) = if byte == 92 then stuck_letter bytes text else byte ∷ text

-- the bytes without whole characters
abbrev pub kept : List ℕ → List ℕ
kept bytes = if is_utf8 bytes then [] else bytes

abbrev pub after_item : List ℕ → List ℕ → Option (List ℕ × ℕ) → (ℕ → List ℕ → Option (List ℕ)) → Option (List ℕ)
after_item bytes text None more = None
after_item bytes text (Some item) more = if can_become (bytes ++ item.0) then more item.1 (kept (bytes ++ item.0)) else Some (stuck_item bytes text)

-- the text from the first byte on with which what it spells after the bytes can no more become UTF-8; some bytes are
-- read already
abbrev pub stuck_past : List ℕ → ℕ → List ℕ → Option (List ℕ)
stuck_past [] read bytes = None
stuck_past (byte ∷ text) (suc read) bytes = stuck_past text read bytes
stuck_past (byte ∷ text) zero bytes = after_item bytes (byte ∷ text) (item_at byte text) (stuck_past text)

-- after the opening quote
abbrev pub stuck_at : List ℕ → Option (List ℕ)
stuck_at text = stuck_past text 0 []

-- where quotes stop, and any bytes may stand between them, or only UTF-8
abbrev pub stopped : Bool → Option (List ℕ) → Lexed → Lexed
stopped true stuck stop = stop
stopped false None stop = stop
stopped false (Some place) stop = Err (place, Unexpected)

-- why a string or words stop before their end
abbrev pub broken : ℕ → TermCause
broken byte = if byte == 92 then BadEscape else Unsupported Interpolation

abbrev pub key_only : List ℕ → List ℕ → Option (List ℕ) → Lexed
key_only text after None = Err (text, BadUtf8)
key_only text after (Some key) = Ok (Key key, after)

-- a string with a colon after it, but no keyword's
abbrev pub colon_lexed : Expected → List ℕ → List ℕ → Lexed
colon_lexed e bytes colon = if e.key && is_utf8 bytes then cut_off (drop 1 colon) else stray_colon e colon

abbrev pub no_quoted_key : Expected → List ℕ → List ℕ → Lexed
no_quoted_key e bytes rest = if starts_with 58 rest then colon_lexed e bytes rest else (if e.term then Ok (Str bytes, rest) else cut_off rest)

-- after the closing quote
abbrev pub closed_lexed : Expected → List ℕ → List ℕ → List ℕ → Option (List ℕ) → Lexed
closed_lexed e text bytes rest None = no_quoted_key e bytes rest
closed_lexed e text bytes rest (Some after) = if e.key then key_only text after (utf8_only bytes) else no_quoted_key e bytes rest

-- a string where only a key may begin, and it can be none; what follows the closing quote's colon and blank is given
abbrev pub is_no_key : Expected → List ℕ → Option (List ℕ) → Bool
is_no_key e bytes None = not (e.term || is_utf8 bytes)
is_no_key e bytes (Some after) = false

abbrev pub string_stop : Expected → List ℕ → List ℕ → List ℕ → Option (List ℕ) → Lexed
string_stop e text bytes [] stuck = stopped e.term stuck (Err ([], Unclosed))
string_stop e text bytes (byte ∷ rest) stuck =
    if byte == 34 then (if is_no_key e bytes (after_colon rest) then stopped e.term stuck (Err (byte ∷ rest, Unexpected)) else closed_lexed e text bytes rest (after_colon rest))
    else stopped e.term stuck (Err (byte ∷ rest, broken byte))

-- two quotes after the first one
abbrev pub is_heredoc : List ℕ → Bool
is_heredoc [] = false
is_heredoc (byte ∷ text) = byte == 34 && starts_with 34 text

-- a string or a quoted key, and the text after its opening quote
abbrev pub string_lexed : Expected → List ℕ → List ℕ → Lexed
string_lexed e text inside = wanted (e.term || e.key) text (if e.term && is_heredoc inside then Err (text, Unsupported Heredoc) else string_stop e text (spelt_at inside).0 (spelt_at inside).1 (stuck_at inside))

-- atoms

abbrev pub quoted_only : List ℕ → List ℕ → Option (List ℕ) → Lexed
quoted_only text after None = Err (text, BadUtf8)
quoted_only text after (Some name) = Ok (Atom name, after)

abbrev pub quoted_stop : List ℕ → List ℕ → List ℕ → Option (List ℕ) → Lexed
quoted_stop text bytes [] stuck = stopped false stuck (Err ([], Unclosed))
quoted_stop text bytes (byte ∷ rest) stuck = if byte == 34 then quoted_only text rest (utf8_only bytes) else stopped false stuck (Err (byte ∷ rest, broken byte))

abbrev pub name_atom_lexed : List ℕ → Lexed
name_atom_lexed text = Ok (Atom (take (name_len text) text), drop (name_len text) text)

-- an atom, after its colon
abbrev pub after_colon_lexed : List ℕ → Lexed
after_colon_lexed [] = Err ([], Unclosed)
after_colon_lexed (byte ∷ text) =
    if byte == 34 then quoted_stop (byte ∷ text) (spelt_at text).0 (spelt_at text).1 (stuck_at text)
    else (if is_name_start byte then name_atom_lexed (byte ∷ text)
    else Err (byte ∷ text, Unexpected))

abbrev pub atom_lexed : Expected → List ℕ → List ℕ → Lexed
atom_lexed e text after = wanted e.term text (after_colon_lexed after)

-- words

abbrev pub words_stop : List ℕ → List ℕ → Lexed
words_stop inside [] = Err ([], Unclosed)
words_stop inside (byte ∷ rest) = if byte == 41 then Ok (Words (kind_of rest).0 (words_from [] inside), (kind_of rest).1) else Err (byte ∷ rest, broken byte)

-- after `~`
abbrev pub after_tilde_lexed : List ℕ → List ℕ → Lexed
after_tilde_lexed text [] = Err ([], Unclosed)
after_tilde_lexed text (letter ∷ []) = if letter == 119 then Err ([], Unclosed) else Err (text, Unsupported Sigil)
after_tilde_lexed text (letter ∷ paren ∷ inside) = if letter == 119 && paren == 40 then words_stop (take (inside_len inside) inside) (drop (inside_len inside) inside) else Err (text, Unsupported Sigil)

abbrev pub words_lexed : Expected → List ℕ → List ℕ → Lexed
words_lexed e text after = wanted e.term text (after_tilde_lexed text after)

-- integers

-- digits with single `_` between some of them, where a digit stands before them or none: whether a digit was the last
-- of them, the digits, and the text after them
abbrev pub Scanned : Type 0
Scanned = Bool × List ℕ × List ℕ

abbrev pub with_digits : List ℕ → Scanned → Scanned
with_digits digits scanned = (scanned.0, digits ++ scanned.1, scanned.2)

abbrev pub scanned : ℕ → Bool → List ℕ → Scanned
scanned base after [] = (after, [], [])
scanned base after (byte ∷ text) = if is_digit byte base then with_digits (byte ∷ []) (scanned base true text) else (if byte == 95 && after then scanned base false text else (after, [], byte ∷ text))

-- `.` before a digit
abbrev pub opens_fraction : List ℕ → Bool
opens_fraction [] = false
opens_fraction (byte ∷ []) = false
opens_fraction (byte ∷ digit ∷ text) = byte == 46 && is_ascii_digit digit

-- the integer has 128 bits
abbrev pub is_narrow : ℤ → Bool
is_narrow (pos n) = nat_lt n (2 ^ 127)
is_narrow (negsuc n) = nat_lt n (2 ^ 127)

-- after the digits of an integer
abbrev pub integer_end : List ℕ → ℕ → ℤ → List ℕ → Lexed
integer_end text base n rest =
    if not (is_narrow n) then Err (text, NumberTooBig)
    else (if base == 10 && opens_fraction rest then Err (rest, Unsupported Float)
    else Ok (Int n, rest))

abbrev pub integer_stop : List ℕ → ℕ → Bool → Scanned → Lexed
integer_stop text base negative scanned = if scanned.0 && ends_integer scanned.2 then integer_end text base (signed negative (digits_value base scanned.1)) scanned.2 else cut_off scanned.2

abbrev pub numeral_lexed : List ℕ → Bool → List ℕ → Lexed
numeral_lexed text negative numeral = integer_stop text (base_of numeral).0 negative (scanned (base_of numeral).0 false (base_of numeral).1)

abbrev pub signed_lexed : List ℕ → Lexed
signed_lexed [] = Err ([], Unclosed)
signed_lexed (byte ∷ text) = if byte == 45 then numeral_lexed (byte ∷ text) true text else numeral_lexed (byte ∷ text) false (byte ∷ text)

abbrev pub integer_lexed : Expected → List ℕ → Lexed
integer_lexed e text = wanted e.term text (signed_lexed text)

-- all tokens
abbrev pub lexed : Expected → List ℕ → Lexed
lexed e [] = Err ([], Unclosed)
lexed e (byte ∷ text) =
    if byte == 58 then atom_lexed e (byte ∷ text) text
    else (if byte == 34 then string_lexed e (byte ∷ text) text
    else (if byte == 126 then words_lexed e (byte ∷ text) text
    else (if byte == 45 || is_digit byte 10 then integer_lexed e (byte ∷ text)
    else (if is_name_start byte then name_lexed e (byte ∷ text)
    else sign_lexed e (byte ∷ text)))))
