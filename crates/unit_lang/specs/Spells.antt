-- Which unit a text spells.
use Rattle.std.specs.Prelude.{ℕ, suc, ◌≤◌, ◌==◌, List, [], ◌∷◌, length, if◌then◌else◌}
use Rattle.unit_lang.specs.declared.unit.Line.{Line}
use Rattle.unit_lang.specs.declared.unit.Statement.{Statement}
use Rattle.unit_lang.specs.declared.unit.Unit.{Unit as UnitFile}
use Rattle.unit_lang.specs.Lines.{IsBlankLine, Names, Says}

-- the longest file and the longest line, in bytes
abbrev pub longest_file : ℕ
longest_file = 1048576

abbrev pub longest_line : ℕ
longest_line = 4096

-- the text, cut at each line feed: always one line more than it has line feeds
abbrev pub with_byte : ℕ → List (List ℕ) → List (List ℕ)
with_byte byte [] = (byte ∷ []) ∷ []
with_byte byte (line ∷ lines) = (byte ∷ line) ∷ lines

abbrev pub lines_of : List ℕ → List (List ℕ)
lines_of [] = [] ∷ []
lines_of (byte ∷ text) = if byte == 10 then [] ∷ lines_of text else with_byte byte (lines_of text)

-- lines from this number on, and what those of them say that aren't blank
pub data Body : ℕ → List (List ℕ) → List Line → Type 0 where
  end : {number : ℕ} → Body number [] []
  blank : {number : ℕ} {line : List ℕ} {lines : List (List ℕ)} {said : List Line} → length line ≤ longest_line → IsBlankLine line → Body (suc number) lines said → Body number (line ∷ lines) said
  says : {number : ℕ} {line : List ℕ} {lines : List (List ℕ)} {said : List Line} {s : Statement} → length line ≤ longest_line → Says line s → Body (suc number) lines said → Body number (line ∷ lines) (record { number = number; statement = s } ∷ said)

-- lines from this number on make the unit: blank lines, the `unit` line, and other lines
pub data Makes : ℕ → List (List ℕ) → UnitFile → Type 0 where
  blank : {number : ℕ} {line : List ℕ} {lines : List (List ℕ)} {u : UnitFile} → length line ≤ longest_line → IsBlankLine line → Makes (suc number) lines u → Makes number (line ∷ lines) u
  heading : {number : ℕ} {line name : List ℕ} {lines : List (List ℕ)} {said : List Line} → length line ≤ longest_line → Names line name → Body (suc number) lines said → Makes number (line ∷ lines) (record { name = name; line = number; lines = said })

-- the text spells the unit
pub record Spells (text : List ℕ) (u : UnitFile) : Type 0 where
  pub short : length text ≤ longest_file
  pub makes : Makes 1 (lines_of text) u
