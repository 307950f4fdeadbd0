-- The first token of a text and the parts of a word, as functions. What they are is said without these (Tokens.antt, Grammar.antt).
use Rattle.std.specs.Prelude.{ℕ, suc, ◌+◌, ◌*◌, ◌-◌, ◌&&◌, ◌==◌, nat_le, Bool, false, bytes_eq, codes, is_none, unwrap_or, List, [], ◌∷◌, Option, Some, None, if◌then◌else◌, take, drop, length, pos}
use Rattle.std.specs.Char.{is_ascii_digit}
use Rattle.unit_lang.specs.declared.token.Token.{Token}
use Rattle.unit_lang.specs.declared.token.Token.TheVariants.{Word, Equals, Plus, Minus, Star, Open, Close}
use Rattle.unit_lang.specs.declared.unit.Expression.{Expression}
use Rattle.unit_lang.specs.declared.unit.Expression.TheVariants.{Number, Name, Reference}
use Rattle.unit_lang.specs.Names.{is_blank, is_word_byte, is_name, are_digits}
use Rattle.unit_lang.specs.Lines.{greatest}
use Rattle.unit_lang.specs.Spells.{lines_of}
use Rattle.unit_lang.specs.Tokens.{without_blanks}

-- how many bytes stand before a comment
abbrev pub plain_len : List ℕ → ℕ
plain_len [] = 0
plain_len (byte ∷ line) = if byte == 35 then 0 else suc (plain_len line)

-- how many bytes the word at the front has: 0 where there is none
abbrev pub word_len : List ℕ → ℕ
word_len [] = 0
word_len (byte ∷ text) = if is_word_byte byte then suc (word_len text) else 0

-- the tokens of one byte
abbrev pub sign : ℕ → Option Token
sign byte = if byte == 61 then Some Equals else (if byte == 43 then Some Plus else (if byte == 45 then Some Minus else (if byte == 42 then Some Star else (if byte == 40 then Some Open else (if byte == 41 then Some Close else None)))))

abbrev pub word_of : ℕ → List ℕ → Option (Token × List ℕ)
word_of len text = if len == 0 then None else Some (Word (take len text), drop len text)

abbrev pub word_at : List ℕ → Option (Token × List ℕ)
word_at text = word_of (word_len text) text

abbrev pub sign_or_word : Option Token → List ℕ → List ℕ → Option (Token × List ℕ)
sign_or_word (Some token) text rest = Some (token, rest)
sign_or_word None text rest = word_at text

-- the token that a text begins with, and the text after it
abbrev pub first_token : List ℕ → Option (Token × List ℕ)
first_token [] = None
first_token (byte ∷ text) = sign_or_word (sign byte) (byte ∷ text) text

-- the rest of a line after its first `warn` and a blank, where the line begins so
abbrev pub after_warn : List ℕ → Option (List ℕ)
after_warn (w ∷ a ∷ r ∷ n ∷ blank ∷ rest) = if w == 119 && a == 97 && r == 114 && n == 110 && is_blank blank then Some rest else None
after_warn line = None

-- the word at the front, empty where there is none, and what follows it
abbrev pub front_word : List ℕ → List ℕ
front_word text = take (word_len text) text

abbrev pub after_word : List ℕ → List ℕ
after_word text = drop (word_len text) text

-- the name that a text begins with, where nothing but blanks follows
abbrev pub name_alone : List ℕ → Option (List ℕ)
name_alone text = if is_name (front_word text) && length (without_blanks (after_word text)) == 0 then Some (front_word text) else None

-- the name in a `unit` line without its comment
abbrev pub title_of : List ℕ → Option (List ℕ)
title_of text = if bytes_eq (front_word (without_blanks text)) (codes "unit") then name_alone (without_blanks (after_word (without_blanks text))) else None

-- how many bytes the first line has
abbrev pub line_len : List ℕ → ℕ
line_len [] = 0
line_len (byte ∷ text) = if byte == 10 then 0 else suc (line_len text)

-- the text after its first byte, where it has one
abbrev pub rest_of : List ℕ → Option (List ℕ)
rest_of [] = None
rest_of (byte ∷ text) = Some text

-- the lines of the text after a line feed, where there is one
abbrev pub lines_after : Option (List ℕ) → List (List ℕ)
lines_after None = []
lines_after (Some text) = lines_of text

-- how much is left to read of it
abbrev pub rest_size : Option (List ℕ) → ℕ
rest_size None = 0
rest_size (Some text) = suc (length text)

-- the parts of a word before and after its first dot
abbrev pub with_first : ℕ → Option (List ℕ × List ℕ) → Option (List ℕ × List ℕ)
with_first byte None = None
with_first byte (Some parts) = Some (byte ∷ parts.0, parts.1)

abbrev pub dotted : List ℕ → Option (List ℕ × List ℕ)
dotted [] = None
dotted (byte ∷ word) = if byte == 46 then Some ([], word) else with_first byte (dotted word)

-- the number that digits go on, where it isn't too great
abbrev pub number_after : ℕ → List ℕ → Option ℕ
number_after value [] = Some value
number_after value (digit ∷ digits) = if is_ascii_digit digit && nat_le (value * 10 + (digit - 48)) greatest then number_after (value * 10 + (digit - 48)) digits else None

abbrev pub number_of : List ℕ → Option ℕ
number_of digits = number_after 0 digits

-- a number that is too great
abbrev pub too_great : Token → Bool
too_great (Word bytes) = are_digits bytes && is_none (number_of bytes)
too_great token = false

abbrev pub reference_of : Option (List ℕ × List ℕ) → Option Expression
reference_of None = None
reference_of (Some parts) = if is_name parts.0 && is_name parts.1 then Some (Reference parts.0 parts.1) else None

-- what a word is in an expression; 0 stands for a number that is too great
abbrev pub operand : List ℕ → Option Expression
operand word = if are_digits word then Some (Number (pos (unwrap_or (number_of word) 0))) else (if is_name word then Some (Name word) else reference_of (dotted word))
