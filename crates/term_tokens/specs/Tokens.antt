-- The tokens that a text is made of.
use Rattle.std.specs.Prelude.{◌≡◌, ℕ, Bool, true, false, not, ◌&&◌, ◌||◌, ◌==◌, List, [], ◌∷◌, ◌++◌, IsTrue, IsFalse, if◌then◌else◌, ℤ}
use Rattle.std.specs.Str.{IsUtf8}
use Rattle.term_tokens.specs.declared.bracket.Bracket.{Bracket}
use Rattle.term_tokens.specs.declared.bracket.Bracket.TheVariants as bracket
use Rattle.term_tokens.specs.declared.token.Closing.{Closing}
use Rattle.term_tokens.specs.declared.token.Closing.TheVariants.{Square, Curly}
use Rattle.term_tokens.specs.declared.token.Token.{Token}
use Rattle.term_tokens.specs.declared.token.WordKind.{WordKind}
use Rattle.term_tokens.specs.declared.token.Token.TheVariants.{Atom, Int, Str, Words, Key, Open, Close, Comma, Arrow}
use Rattle.term_tokens.specs.Names.{is_name, is_name_byte, is_bare_atom, is_blank}
use Rattle.term_tokens.specs.Numbers.{Integer}
use Rattle.term_tokens.specs.Strings.{Quoted}
use Rattle.term_tokens.specs.Words.{is_inside, Cut, Modified}

-- `[`, `{` or `%{`
abbrev pub opening : Bracket → List ℕ
opening bracket.List = 91 ∷ []
opening bracket.Tuple = 123 ∷ []
opening bracket.Map = 37 ∷ 123 ∷ []

-- `]` or `}`
abbrev pub closing : Closing → ℕ
closing Square = 93
closing Curly = 125

-- a name is as long as it can be: with the byte that follows it would be none
abbrev pub ends_name : List ℕ → List ℕ → Bool
ends_name name [] = true
ends_name name (byte ∷ rest) = not (is_name (name ++ byte ∷ []))

-- no byte of a name follows an integer
abbrev pub ends_integer : List ℕ → Bool
ends_integer [] = true
ends_integer (byte ∷ rest) = not (is_name_byte byte)

-- a modifier that stands after `~w(..)` belongs to it
abbrev pub ends_words : List ℕ → List ℕ → Bool
ends_words [] (byte ∷ rest) = not (byte == 115 || byte == 97)
ends_words modifier rest = true

-- the colon of a keyword's key, with a blank after it
abbrev pub is_colon : List ℕ → Bool
is_colon (byte ∷ blank ∷ rest) = byte == 58 && is_blank blank
is_colon text = false

-- the text begins with the token, and goes on with the rest
pub data Begins : List ℕ → Token → List ℕ → Type 0 where
  -- `true`, `false` or `nil`
  bare_atom : {text name rest : List ℕ} → IsTrue (is_bare_atom name) → IsTrue (ends_name name rest) → IsFalse (is_colon rest) → text ≡ name ++ rest → Begins text (Atom name) rest
  -- `:` and a name
  atom : {text name rest : List ℕ} → IsTrue (is_name name) → IsTrue (ends_name name rest) → text ≡ 58 ∷ name ++ rest → Begins text (Atom name) rest
  -- `:` and a string whose bytes are UTF-8
  quoted_atom : {text inside bytes rest : List ℕ} → Quoted inside bytes → IsUtf8 bytes → text ≡ 58 ∷ 34 ∷ inside ++ 34 ∷ rest → Begins text (Atom bytes) rest
  integer : {text word rest : List ℕ} {n : ℤ} → Integer word n → IsTrue (ends_integer rest) → text ≡ word ++ rest → Begins text (Int n) rest
  string : {text inside bytes rest : List ℕ} → Quoted inside bytes → IsFalse (is_colon rest) → text ≡ 34 ∷ inside ++ 34 ∷ rest → Begins text (Str bytes) rest
  -- `~w(`, words, `)` and perhaps a modifier
  words : {text inside modifier rest : List ℕ} {words : List (List ℕ)} {kind : WordKind} → IsTrue (is_inside inside) → Cut inside words → Modified modifier kind → IsTrue (ends_words modifier rest) → text ≡ 126 ∷ 119 ∷ 40 ∷ inside ++ 41 ∷ modifier ++ rest → Begins text (Words kind words) rest
  -- a name, a colon and a blank
  key : {text name rest : List ℕ} (blank : ℕ) → IsTrue (is_name name) → IsTrue (is_blank blank) → text ≡ name ++ 58 ∷ blank ∷ rest → Begins text (Key name) rest
  -- a string whose bytes are UTF-8, a colon and a blank
  quoted_key : {text inside bytes rest : List ℕ} (blank : ℕ) → Quoted inside bytes → IsUtf8 bytes → IsTrue (is_blank blank) → text ≡ 34 ∷ inside ++ 34 ∷ 58 ∷ blank ∷ rest → Begins text (Key bytes) rest
  opens : {text rest : List ℕ} {bracket : Bracket} → text ≡ opening bracket ++ rest → Begins text (Open bracket) rest
  closes : {text rest : List ℕ} {bracket : Closing} → text ≡ closing bracket ∷ rest → Begins text (Close bracket) rest
  comma : {text rest : List ℕ} → text ≡ 44 ∷ rest → Begins text Comma rest
  -- `=>`
  arrow : {text rest : List ℕ} → text ≡ 61 ∷ 62 ∷ rest → Begins text Arrow rest

-- the text from the end of its first line on
abbrev pub line_end : List ℕ → List ℕ
line_end [] = []
line_end (byte ∷ text) = if byte == 10 then byte ∷ text else line_end text

-- blanks lead from the text to the rest: blank bytes, and comments from `#` up to the end of a line
pub data Blanks : List ℕ → List ℕ → Type 0 where
  none : {rest : List ℕ} → Blanks rest rest
  blank : {byte : ℕ} {text rest : List ℕ} → IsTrue (is_blank byte) → Blanks text rest → Blanks (byte ∷ text) rest
  comment : {text rest : List ℕ} → Blanks (line_end text) rest → Blanks (35 ∷ text) rest

-- the text is these tokens in their order, with blanks between and around them
abbrev pub AreTokens : List Token → List ℕ → Type 0
AreTokens [] text = Blanks text []
AreTokens (token ∷ tokens) text = (start rest : List ℕ) × Blanks text start × Begins start token rest × AreTokens tokens rest
