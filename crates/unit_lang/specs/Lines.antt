-- What one line says.
use Rattle.std.specs.Prelude.{◌≡◌, ℕ, Bool, false, not, ◌&&◌, List, [], ◌∷◌, ◌++◌, IsTrue, codes}
use Rattle.std.specs.List.{list_all}
use Rattle.unit_lang.specs.declared.token.Token.{Token}
use Rattle.unit_lang.specs.declared.unit.Statement.{Statement}
use Rattle.unit_lang.specs.declared.unit.Statement.TheVariants.{Warn}
use Rattle.unit_lang.specs.Grammar.{IsStatement, IsHeading}
use Rattle.unit_lang.specs.Names.{is_blank}
use Rattle.unit_lang.specs.Tokens.{without_comment, AreTokens}

-- how deep parentheses and minus signs may nest
abbrev pub deepest : ℕ
deepest = 64

-- the greatest number
abbrev pub greatest : ℕ
greatest = 9223372036854775807

-- a text that begins and ends with a byte that is no blank
abbrev pub ends_solid : List ℕ → Bool
ends_solid [] = false
ends_solid (byte ∷ []) = not (is_blank byte)
ends_solid (byte ∷ next ∷ bytes) = ends_solid (next ∷ bytes)

abbrev pub is_solid : List ℕ → Bool
is_solid [] = false
is_solid (byte ∷ bytes) = not (is_blank byte) && ends_solid (byte ∷ bytes)

abbrev pub are_blanks : List ℕ → Bool
are_blanks bytes = list_all is_blank bytes

-- a line that begins with `warn` and a blank: `#` begins no comment there
pub record StartsWarn (line : List ℕ) (rest : List ℕ) : Type 0 where
  pub before : List ℕ
  pub blank : ℕ
  pub before_blank : IsTrue (are_blanks before)
  pub after_blank : IsTrue (is_blank blank)
  pub split : line ≡ before ++ codes "warn" ++ blank ∷ rest

abbrev pub IsWarnLine : List ℕ → Type 0
IsWarnLine line = (rest : List ℕ) × StartsWarn line rest

-- the rest of a `warn` line is its text, with blanks around it
pub record Warns (line : List ℕ) (text : List ℕ) : Type 0 where
  pub rest : List ℕ
  pub starts : StartsWarn line rest
  pub before : List ℕ
  pub after : List ℕ
  pub before_blank : IsTrue (are_blanks before)
  pub after_blank : IsTrue (are_blanks after)
  pub solid : IsTrue (is_solid text)
  pub split : rest ≡ before ++ text ++ after

-- the tokens of a line that is no `warn` line
pub record LineTokens (line : List ℕ) (tokens : List Token) : Type 0 where
  pub plain : IsWarnLine line → ⊥
  pub cut : AreTokens (without_comment line) tokens

-- nothing but blanks and a comment
abbrev pub IsBlankLine : List ℕ → Type 0
IsBlankLine line = LineTokens line []

-- a `unit` line, and its name
abbrev pub Names : List ℕ → List ℕ → Type 0
Names line name = (tokens : List Token) × LineTokens line tokens × IsHeading tokens name

abbrev pub IsUnitLine : List ℕ → Type 0
IsUnitLine line = (name : List ℕ) × Names line name

-- what another line says
pub data Says : List ℕ → Statement → Type 0 where
  warn : {line text : List ℕ} → Warns line text → Says line (Warn text)
  tokens : {line : List ℕ} {tokens : List Token} {s : Statement} → LineTokens line tokens → IsStatement deepest greatest tokens s → Says line s
