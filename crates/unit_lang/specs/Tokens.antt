-- The tokens that a line is made of.
use Rattle.std.specs.Prelude.{◌≡◌, ℕ, Bool, true, false, not, ◌==◌, List, [], ◌∷◌, ◌++◌, IsTrue, if◌then◌else◌}
use Rattle.std.specs.List.{list_all}
use Rattle.unit_lang.specs.declared.token.Token.{Token}
use Rattle.unit_lang.specs.declared.token.Token.TheVariants.{Word, Equals, Plus, Minus, Star, Open, Close}
use Rattle.unit_lang.specs.Names.{is_blank, is_word_byte}

-- the line without its comment, which `#` begins
abbrev pub without_comment : List ℕ → List ℕ
without_comment [] = []
without_comment (byte ∷ line) = if byte == 35 then [] else byte ∷ without_comment line

-- the bytes of a word: at least one, all of them word bytes
abbrev pub is_word : List ℕ → Bool
is_word [] = false
is_word (byte ∷ bytes) = list_all is_word_byte (byte ∷ bytes)

-- a word is as long as it can be
abbrev pub ends_word : List ℕ → Bool
ends_word [] = true
ends_word (byte ∷ rest) = not (is_word_byte byte)

-- the text begins with the token, and goes on with the rest
pub data Begins : List ℕ → Token → List ℕ → Type 0 where
  word : {text rest : List ℕ} {bytes : List ℕ} → IsTrue (is_word bytes) → IsTrue (ends_word rest) → text ≡ bytes ++ rest → Begins text (Word bytes) rest
  equals : {rest : List ℕ} → Begins (61 ∷ rest) Equals rest
  plus : {rest : List ℕ} → Begins (43 ∷ rest) Plus rest
  minus : {rest : List ℕ} → Begins (45 ∷ rest) Minus rest
  star : {rest : List ℕ} → Begins (42 ∷ rest) Star rest
  parenthesis : {rest : List ℕ} → Begins (40 ∷ rest) Open rest
  closing : {rest : List ℕ} → Begins (41 ∷ rest) Close rest

-- the text without the blanks at its beginning
abbrev pub without_blanks : List ℕ → List ℕ
without_blanks [] = []
without_blanks (byte ∷ text) = if is_blank byte then without_blanks text else byte ∷ text

-- these tokens stand at the beginning of the text, with blanks between and around them, and what is left after them
pub data Leads : List ℕ → List Token → List ℕ → Type 0 where
  end : {text rest : List ℕ} → without_blanks text ≡ rest → Leads text [] rest
  token : {text after rest : List ℕ} {t : Token} {tokens : List Token} → Begins (without_blanks text) t after → Leads after tokens rest → Leads text (t ∷ tokens) rest

-- the text is these tokens and nothing else
abbrev pub AreTokens : List ℕ → List Token → Type 0
AreTokens text tokens = Leads text tokens []
