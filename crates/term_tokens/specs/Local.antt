-- Where and why the rest of a text is refused at a place between two tokens.
use Rattle.std.specs.Prelude.{◌≡◌, ◌≢◌, ℕ, suc, ◌+◌, ◌<◌, ◌≤◌, ◌⊎◌, Bool, true, false, not, ◌&&◌, ◌==◌, List, [], ◌∷◌, ◌++◌, length, take, Option, Some, None, IsTrue, IsFalse, ℤ}
use Rattle.std.specs.Char.{is_ascii_digit}
use Rattle.std.specs.Str.{IsUtf8}
use Rattle.term_tokens.specs.declared.cause.Feature.TheVariants.{Charlist, Sigil, Heredoc, Interpolation, Float, Alias, Bits}
use Rattle.term_tokens.specs.declared.cause.TermCause.{TermCause}
use Rattle.term_tokens.specs.declared.cause.TermCause.TheVariants as cause
use Rattle.term_tokens.specs.declared.expected.Expected.{Expected}
use Rattle.term_tokens.specs.declared.token.Closing.{Closing}
use Rattle.term_tokens.specs.declared.token.Closing.TheVariants.{Square, Curly}
use Rattle.term_tokens.specs.declared.token.Token.{Token}
use Rattle.term_tokens.specs.declared.token.Token.TheVariants.{Atom, Int, Str, Words, Key, Open, Close, Comma, Arrow}
use Rattle.term_tokens.specs.Lexing.{IsWide}
use Rattle.term_tokens.specs.Names.{is_from, is_name, is_blank}
use Rattle.term_tokens.specs.Numbers.{Grouped}
use Rattle.term_tokens.specs.Strings.{Escape, Quoted}
use Rattle.term_tokens.specs.Tokens.{Begins, ends_name, is_colon}
use Rattle.term_tokens.specs.Words.{is_inside}

-- `"`, or `:"` before a quoted atom
abbrev pub IsOpening : List ℕ → Type 0
IsOpening opening = (opening ≡ 34 ∷ []) ⊎ (opening ≡ 58 ∷ 34 ∷ [])

-- `A` to `Z`
abbrev pub IsCapital : ℕ → Type 0
IsCapital byte = IsTrue (is_from 65 90 byte)

-- a decimal integer
abbrev pub IsDecimal : List ℕ → Type 0
IsDecimal word = (digits : List ℕ) × (Grouped 10 word digits ⊎ ((text : List ℕ) × Grouped 10 text digits × (word ≡ 45 ∷ text)))

-- no escape stands in full after the backslash
abbrev pub IsNoEscape : List ℕ → Type 0
IsNoEscape text = (word value after : List ℕ) → Escape word value → text ≡ word ++ after → ⊥

-- the order in which causes at one place are told
abbrev pub rank : TermCause → ℕ
rank (cause.Unsupported Charlist) = 0
rank (cause.Unsupported Sigil) = 1
rank (cause.Unsupported Heredoc) = 2
rank (cause.Unsupported Interpolation) = 3
rank (cause.Unsupported Float) = 4
rank (cause.Unsupported Alias) = 5
rank (cause.Unsupported Bits) = 6
rank cause.BadEscape = 7
rank cause.BadUtf8 = 8
rank cause.NumberTooBig = 9
rank cause.TooDeep = 10
rank cause.DuplicateKey = 11
rank cause.TrailingText = 12
rank cause.Unclosed = 13
rank cause.Unexpected = 14
rank cause.TooLong = 15
rank cause.OutOfMemory = 16

-- the text's first byte is this one
abbrev pub starts_with : ℕ → List ℕ → Bool
starts_with byte [] = false
starts_with byte (first ∷ text) = first == byte

-- the token at the front of the text is a string, or an atom without a colon
abbrev pub is_plain : List ℕ → Token → Bool
is_plain text (Str bytes) = true
is_plain text (Atom name) = not (starts_with 58 text)
is_plain text token = false

-- no colon directly follows such a token
abbrev pub IsFree : List ℕ → Token → List ℕ → Type 0
IsFree text token after = IsFalse (is_plain text token && starts_with 58 after)

-- the text begins with a decimal integer, and `.` and a digit directly after it
abbrev pub IsFloat : List ℕ → Type 0
IsFloat text = (word : List ℕ) × (digit : ℕ) × (more : List ℕ) × IsDecimal word × IsTrue (is_ascii_digit digit) × (text ≡ word ++ 46 ∷ digit ∷ more)

abbrev pub is_closing : Option Closing → Closing → Bool
is_closing None closing = false
is_closing (Some Square) Square = true
is_closing (Some Square) Curly = false
is_closing (Some Curly) Square = false
is_closing (Some Curly) Curly = true

-- the token may stand where these are expected
abbrev pub takes : Expected → Token → Bool
takes e (Atom name) = e.term
takes e (Int n) = e.term
takes e (Str bytes) = e.term
takes e (Words kind words) = e.term
takes e (Open bracket) = e.term
takes e (Key name) = e.key
takes e (Close closing) = is_closing e.closing closing
takes e Comma = e.comma
takes e Arrow = e.arrow

-- nothing, or a beginning of a token that may stand there, or the whole of it
abbrev pub IsPart : Expected → List ℕ → Type 0
IsPart e part = (part ≡ []) ⊎ ((token : Token) × (more : List ℕ) × Begins (part ++ more) token [] × IsTrue (takes e token))

-- no text that begins so has a token that may stand there
abbrev pub IsShut : Expected → List ℕ → Type 0
IsShut e part = (more : List ℕ) (token : Token) (after : List ℕ) → Begins (part ++ more) token after → IsTrue (takes e token) → IsFree (part ++ more) token after → ⊥

-- what holds of the rest of a text at so many bytes from its beginning, where these tokens are expected
pub data Locally : Expected → List ℕ → ℕ → TermCause → Type 0 where
  charlist : {e : Expected} {more : List ℕ} → IsTrue e.term → Locally e (39 ∷ more) 0 (cause.Unsupported Charlist)
  sigil : {e : Expected} {more : List ℕ} → IsTrue e.term → more ≢ [] → more ≢ 119 ∷ [] → ((rest : List ℕ) → more ≡ 119 ∷ 40 ∷ rest → ⊥) → Locally e (126 ∷ more) 0 (cause.Unsupported Sigil)
  heredoc : {e : Expected} {more : List ℕ} → IsTrue e.term → Locally e (34 ∷ 34 ∷ 34 ∷ more) 0 (cause.Unsupported Heredoc)
  bits : {e : Expected} {more : List ℕ} → IsTrue e.term → Locally e (60 ∷ 60 ∷ more) 0 (cause.Unsupported Bits)
  interpolation : {e : Expected} {text opening inside bytes : List ℕ} (more : List ℕ) → IsTrue e.term ⊎ IsTrue e.key → IsOpening opening → Quoted inside bytes → text ≡ opening ++ (inside ++ 35 ∷ 123 ∷ more) → Locally e text (length opening + length inside) (cause.Unsupported Interpolation)
  interpolated_words : {e : Expected} {text : List ℕ} (inside more : List ℕ) → IsTrue e.term → IsTrue (is_inside inside) → text ≡ 126 ∷ 119 ∷ 40 ∷ inside ++ 35 ∷ 123 ∷ more → Locally e text (3 + length inside) (cause.Unsupported Interpolation)
  float : {e : Expected} {text word : List ℕ} (digit : ℕ) (more : List ℕ) → IsTrue e.term → IsDecimal word → IsTrue (is_ascii_digit digit) → text ≡ word ++ 46 ∷ digit ∷ more → Locally e text (length word) (cause.Unsupported Float)
  -- where no keyword's key may begin
  alias_alone : {e : Expected} {byte : ℕ} {more : List ℕ} → IsTrue e.term → IsFalse e.key → IsCapital byte → Locally e (byte ∷ more) 0 (cause.Unsupported Alias)
  -- a name that no keyword's colon follows
  alias : {e : Expected} {text : List ℕ} (byte : ℕ) (name more : List ℕ) → IsTrue e.term ⊎ IsTrue e.key → IsCapital byte → IsTrue (is_name (byte ∷ name)) → IsTrue (ends_name (byte ∷ name) more) → IsFalse (is_colon more) → text ≡ byte ∷ name ++ more → Locally e text 0 (cause.Unsupported Alias)
  escape : {e : Expected} {text opening inside bytes : List ℕ} (more : List ℕ) → IsTrue e.term ⊎ IsTrue e.key → IsOpening opening → Quoted inside bytes → text ≡ opening ++ (inside ++ 92 ∷ more) → IsNoEscape more → Locally e text (length opening + length inside) cause.BadEscape
  escape_in_words : {e : Expected} {text : List ℕ} (inside more : List ℕ) → IsTrue e.term → IsTrue (is_inside inside) → text ≡ 126 ∷ 119 ∷ 40 ∷ inside ++ 92 ∷ more → Locally e text (3 + length inside) cause.BadEscape
  atom_utf8 : {e : Expected} {text inside bytes : List ℕ} (more : List ℕ) → IsTrue e.term → Quoted inside bytes → (IsUtf8 bytes → ⊥) → text ≡ 58 ∷ 34 ∷ inside ++ 34 ∷ more → Locally e text 1 cause.BadUtf8
  key_utf8 : {e : Expected} {text inside bytes : List ℕ} (blank : ℕ) (more : List ℕ) → IsTrue e.key → Quoted inside bytes → (IsUtf8 bytes → ⊥) → IsTrue (is_blank blank) → text ≡ 34 ∷ inside ++ 34 ∷ 58 ∷ blank ∷ more → Locally e text 0 cause.BadUtf8
  number : {e : Expected} {text after : List ℕ} {n : ℤ} → IsTrue e.term → Begins text (Int n) after → IsWide (Int n) → Locally e text 0 cause.NumberTooBig
  -- a whole term of the text's own, and a colon directly after it
  colon_after : {e : Expected} {text word : List ℕ} (more : List ℕ) {token : Token} → IsTrue e.outermost → Begins word token [] → IsTrue (is_plain word token) → text ≡ word ++ 58 ∷ more → Locally e text (length word) cause.TrailingText
  unclosed : {e : Expected} {text : List ℕ} → IsPart e text → ((token : Token) (after : List ℕ) → Begins text token after → IsTrue (takes e token) → IsFree text token after → ⊥) → Locally e text (length text) cause.Unclosed
  unexpected : {e : Expected} {text : List ℕ} {k : ℕ} → k < length text → IsPart e (take k text) → IsShut e (take (suc k) text) → Locally e text k cause.Unexpected

-- the first of what holds of the rest of a text
pub record IsFirst (e : Expected) (text : List ℕ) (k : ℕ) (why : TermCause) : Type 0 where
  pub holds : Locally e text k why
  pub open_so_far : IsPart e (take k text)
  pub first : (place : ℕ) (other : TermCause) → Locally e text place other → (k < place) ⊎ ((k ≡ place) × (rank why ≤ rank other))

-- no fraction follows a decimal integer at the front, and no three quotes stand there
abbrev pub IsWhole : List ℕ → Type 0
IsWhole text = (IsFloat text → ⊥) × ((more : List ℕ) → text ≡ 34 ∷ 34 ∷ 34 ∷ more → ⊥)
