-- The first fault of a text that spells no unit.
use Rattle.std.specs.Prelude.{ℕ, suc, ◌<◌, ◌≤◌, List, [], ◌∷◌, ◌++◌, length, IsTrue, Result, Ok, Err}
use Rattle.std.specs.List.{AllByRecursion}
use Rattle.std.specs.Str.Parse.{digits_value}
use Rattle.unit_lang.specs.declared.error.UnitCause.{UnitCause}
use Rattle.unit_lang.specs.declared.error.UnitCause.TheVariants.{TooLong, NoUnit, TooDeep, NumberTooBig, BadLine}
use Rattle.unit_lang.specs.declared.error.UnitError.{UnitError}
use Rattle.unit_lang.specs.declared.token.Token.{Token}
use Rattle.unit_lang.specs.declared.token.Token.TheVariants.{Word}
use Rattle.unit_lang.specs.declared.unit.Expression.{Expression}
use Rattle.unit_lang.specs.declared.unit.Statement.{Statement}
use Rattle.unit_lang.specs.declared.unit.Statement.TheVariants.{Let}
use Rattle.unit_lang.specs.declared.unit.Unit.{Unit as UnitFile}
use Rattle.unit_lang.specs.Grammar.{IsStatement}
use Rattle.unit_lang.specs.Lines.{IsWarnLine, IsBlankLine, IsUnitLine, Names, Says, deepest, greatest}
use Rattle.unit_lang.specs.Names.{are_digits}
use Rattle.unit_lang.specs.Spells.{Spells, lines_of, longest_file, longest_line}
use Rattle.unit_lang.specs.Tokens.{Leads, without_comment}

-- the tokens begin a `let` line, but for how deep it nests and how great its numbers are
pub record BeginsLet (front : List Token) : Type 0 where
  pub levels : ℕ
  pub most : ℕ
  pub rest : List Token
  pub name : List ℕ
  pub value : Expression
  pub whole : IsStatement levels most (front ++ rest) (Let name value)

-- tokens at the beginning of a line that is no `warn` line, as many as begin a `let` line
pub record LetFront (line : List ℕ) (front : List Token) : Type 0 where
  pub plain : IsWarnLine line → ⊥
  pub rest : List ℕ
  pub leads : Leads (without_comment line) front rest
  pub begins : BeginsLet front

-- the line begins as a `let` line does, and each line that begins so nests too deep
pub record IsTooDeep (line : List ℕ) : Type 0 where
  pub front : List Token
  pub fronts : LetFront line front
  pub deep : (most : ℕ) (rest : List Token) (s : Statement) → IsStatement deepest most (front ++ rest) s → ⊥

-- the line begins as a `let` line does, up to a number that is too great
pub record IsTooBig (line : List ℕ) : Type 0 where
  pub front : List Token
  pub digits : List ℕ
  pub fronts : LetFront line (front ++ Word digits ∷ [])
  pub number : IsTrue (are_digits digits)
  pub great : greatest < digits_value 10 digits

-- the fault of a line after the `unit` line, the first of these that holds
pub data LineFault : List ℕ → UnitCause → Type 0 where
  long : {line : List ℕ} → longest_line < length line → LineFault line TooLong
  deep : {line : List ℕ} → length line ≤ longest_line → IsTooDeep line → LineFault line TooDeep
  great : {line : List ℕ} → length line ≤ longest_line → (IsTooDeep line → ⊥) → IsTooBig line → LineFault line NumberTooBig
  bad : {line : List ℕ} → length line ≤ longest_line → (IsTooDeep line → ⊥) → (IsTooBig line → ⊥) → (IsBlankLine line → ⊥) → ((s : Statement) → Says line s → ⊥) → LineFault line BadLine

-- the fault of the first line that isn't blank
pub data HeadingFault : List ℕ → UnitCause → Type 0 where
  long : {line : List ℕ} → longest_line < length line → HeadingFault line TooLong
  none : {line : List ℕ} → length line ≤ longest_line → (IsBlankLine line → ⊥) → ((name : List ℕ) → Names line name → ⊥) → HeadingFault line NoUnit

-- lines after the `unit` line, from this number on: those before the faulty one are good
pub data BodyFault : ℕ → List (List ℕ) → ℕ → UnitCause → Type 0 where
  here : {number : ℕ} {line : List ℕ} {lines : List (List ℕ)} {cause : UnitCause} → LineFault line cause → BodyFault number (line ∷ lines) number cause
  blank : {number at : ℕ} {line : List ℕ} {lines : List (List ℕ)} {cause : UnitCause} → length line ≤ longest_line → IsBlankLine line → BodyFault (suc number) lines at cause → BodyFault number (line ∷ lines) at cause
  says : {number at : ℕ} {line : List ℕ} {lines : List (List ℕ)} {s : Statement} {cause : UnitCause} → length line ≤ longest_line → Says line s → BodyFault (suc number) lines at cause → BodyFault number (line ∷ lines) at cause

-- lines from this number on
pub data FileFault : ℕ → List (List ℕ) → ℕ → UnitCause → Type 0 where
  here : {number : ℕ} {line : List ℕ} {lines : List (List ℕ)} {cause : UnitCause} → HeadingFault line cause → FileFault number (line ∷ lines) number cause
  blank : {number at : ℕ} {line : List ℕ} {lines : List (List ℕ)} {cause : UnitCause} → length line ≤ longest_line → IsBlankLine line → FileFault (suc number) lines at cause → FileFault number (line ∷ lines) at cause
  heading : {number at : ℕ} {line : List ℕ} (name : List ℕ) {lines : List (List ℕ)} {cause : UnitCause} → length line ≤ longest_line → Names line name → BodyFault (suc number) lines at cause → FileFault number (line ∷ lines) at cause

-- no line is a `unit` line
abbrev pub IsUnitless : List (List ℕ) → Type 0
IsUnitless lines = AllByRecursion (λ line. IsUnitLine line → ⊥) lines

-- the fault of a file without a `unit` line, which is told at its first line
pub data UnitlessFault : List (List ℕ) → UnitCause → Type 0 where
  long : {line : List ℕ} {lines : List (List ℕ)} → longest_line < length line → UnitlessFault (line ∷ lines) TooLong
  none : {line : List ℕ} {lines : List (List ℕ)} → length line ≤ longest_line → UnitlessFault (line ∷ lines) NoUnit

-- the first fault of a text, by lines
pub data FirstFault : List ℕ → ℕ → UnitCause → Type 0 where
  long : {text : List ℕ} → longest_file < length text → FirstFault text 1 TooLong
  unitless : {text : List ℕ} {cause : UnitCause} → length text ≤ longest_file → IsUnitless (lines_of text) → UnitlessFault (lines_of text) cause → FirstFault text 1 cause
  line : {text : List ℕ} {at : ℕ} {cause : UnitCause} → length text ≤ longest_file → (IsUnitless (lines_of text) → ⊥) → FileFault 1 (lines_of text) at cause → FirstFault text at cause

-- what a text is read as
abbrev pub IsRead : List ℕ → Result UnitFile UnitError → Type 0
IsRead text (Ok u) = Spells text u
IsRead text (Err error) = FirstFault text error.line error.cause

-- the first of the lines that isn't blank is a `unit` line, and none up to it is too long
pub data IsHeaded : List (List ℕ) → Type 0 where
  heading : {line : List ℕ} {lines : List (List ℕ)} → length line ≤ longest_line → IsUnitLine line → IsHeaded (line ∷ lines)
  blank : {line : List ℕ} {lines : List (List ℕ)} → length line ≤ longest_line → IsBlankLine line → IsHeaded lines → IsHeaded (line ∷ lines)

-- a file that isn't too long, of such lines
pub record HasHeading (text : List ℕ) : Type 0 where
  pub short : length text ≤ longest_file
  pub headed : IsHeaded (lines_of text)
