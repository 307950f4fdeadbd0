-- The fields of a mark's text that its readers read.
use Rattle.std.specs.Prelude.{◌≡◌, ℕ, ◌/◌, ◌%◌, ◌<◌, Bool, true, false, List, [], ◌∷◌, ◌++◌, length, slice_index, codes, IsTrue, Option, Some, None}
use Rattle.std.specs.declared.cmp.Ordering.TheVariants.{Less}
use Rattle.std.specs.Str.{IsUtf8}
use Rattle.hex.specs.Hex.{encode_lower, lower_digits}
use Rattle.mx_base.specs.declared.row.FileRow.{FileRow}
use Rattle.mx_base.specs.Order.{text_cmp}
use Rattle.mx_base.specs.Path.{is_path}
use Rattle.reading.specs.Field.{FitInTurn, Stops}
use Rattle.reading.specs.declared.stuck.Fault.{Fault}
use Rattle.reading.specs.declared.stuck.Fault.TheVariants.{Stuck, OutOfMemory}
use Rattle.build_manifest.specs.declared.mark.MarkFormat.{MarkFormat}
use Rattle.build_manifest.specs.Mark.{HasNoMore, IsMarkRow, LeadFits, Line, LineFits, has_diagnostics, limit, source_lines}

-- the field stops where the reader says; that memory ran out says nothing of it
abbrev pub StopsBy : {A : Type 0} → (A → List ℕ) → (A → Type 0) → List ℕ → Fault → Type 0
StopsBy text Fits from (Stuck stuck) = Stops text Fits from stuck.left
StopsBy text Fits from OutOfMemory = Unit {0}

-- bytes whose number can be written
abbrev pub Block : List ℕ → Type 0
Block bytes = length bytes < limit

-- values whose number can be written, and that fit one after another
abbrev pub LinesFit : {A : Type 0} → (List A → A → Type 0) → List A → Type 0
LinesFit Fits lines = (length lines < limit) × FitInTurn Fits [] lines

-- a text and the newline behind it
abbrev pub ended : List ℕ → List ℕ
ended text = text ++ 10 ∷ []

-- a byte as two digits
abbrev pub byte_text : ℕ → List ℕ
byte_text byte = slice_index lower_digits (byte / 16) ∷ slice_index lower_digits (byte % 16) ∷ []

abbrev pub IsByte : ℕ → Type 0
IsByte byte = byte < 256

-- a digest and the space behind it
abbrev pub lead_text : List ℕ → List ℕ
lead_text digest = encode_lower digest ++ 32 ∷ []

-- the first line: whether it is that of the second form
abbrev pub tag_text : Bool → List ℕ
tag_text false = codes "mark 1" ++ 10 ∷ []
tag_text true = codes "mark 2" ++ 10 ∷ []

-- .. its digit, and that with the newline behind it
abbrev pub tag_digit : Bool → ℕ
tag_digit false = 49
tag_digit true = 50

abbrev pub form_text : Bool → List ℕ
form_text is_second = tag_digit is_second ∷ 10 ∷ []

-- ---- what may follow a row

-- the path stands after this one, where there is one
abbrev pub ComesAfter : Option (List ℕ) → List ℕ → Type 0
ComesAfter None path = Unit {0}
ComesAfter (Some earlier) path = text_cmp earlier path ≡ Less

-- what the path before is, where there is one
abbrev pub IsEarlier : Option (List ℕ) → Type 0
IsEarlier None = Unit {0}
IsEarlier (Some path) = IsTrue (is_path path) × IsUtf8 path

-- a path that a row may have, after a row of the path before it
pub record NextPath (before : Option (List ℕ)) (path : List ℕ) : Type 0 where
  pub proper : IsTrue (is_path path)
  pub utf8 : IsUtf8 path
  pub order : ComesAfter before path

-- such a row
pub record NextRow (before : Option (List ℕ)) (row : FileRow) : Type 0 where
  pub sound : IsMarkRow row
  pub order : ComesAfter before row.path

-- such a row with what stands in front of it
pub record NextLine (leads : Bool) (before : Option (List ℕ)) (line : Line) : Type 0 where
  pub lead : LeadFits leads line.0
  pub row : NextRow before line.1

-- the path of the last row
abbrev pub last_path : List FileRow → Option (List ℕ)
last_path [] = None
last_path (row ∷ []) = Some row.path
last_path (row ∷ next ∷ rows) = last_path (next ∷ rows)

-- ---- sources

-- a form and rows that make the lines of sources
pub record AreSources (leads : Bool) (sources : MarkFormat × List FileRow) : Type 0 where
  pub form : has_diagnostics sources.0 ≡ leads
  pub no_more : HasNoMore sources.0 sources.1
  pub lines : LinesFit (LineFits leads) (source_lines sources.0 sources.1)
