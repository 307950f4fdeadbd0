-- What a mark says.
use Rattle.std.specs.Prelude.{◌≡◌, ℕ, ◌<◌, ◌^◌, Bool, true, false, List, [], ◌∷◌, length, map, IsTrue, Option, Some, None}
use Rattle.std.specs.declared.cmp.Ordering.TheVariants.{Less}
use Rattle.std.specs.List.{AllByRecursion}
use Rattle.std.specs.Str.{IsUtf8}
use Rattle.mx_base.specs.AppName.{IsAppName}
use Rattle.mx_base.specs.Order.{text_cmp}
use Rattle.mx_base.specs.Path.{is_path}
use Rattle.reading.specs.Field.{FitInTurn}
use Rattle.build_manifest.specs.declared.mark.MarkFormat.{MarkFormat}
use Rattle.build_manifest.specs.declared.mark.MarkFormat.TheVariants.{One, Two}
use Rattle.mx_base.specs.declared.row.FileRow.{FileRow}
use Rattle.mx_base.specs.Digest.{IsDigest}

-- the digest of a need's outputs, and its app
abbrev pub Need : Type 0
Need = List ℕ × List ℕ

pub record MarkView : Type 0 where
  pub format : MarkFormat
  pub options : List ℕ
  pub sources : List FileRow
  pub needs : List Need
  pub outputs : List FileRow
  pub text : List ℕ

-- all numbers that a mark's text has are below this
abbrev pub limit : ℕ
limit = 2 ^ 63

-- a row, and in front of it the digest of what was said about its file, where the mark's form has that
abbrev pub Line : Type 0
Line = Option (List ℕ) × FileRow

abbrev pub plain : List FileRow → List Line
plain rows = map (λ row. (None, row)) rows

abbrev pub diagnosed : List (List ℕ) → List FileRow → List Line
diagnosed digests [] = []
diagnosed [] (row ∷ rows) = (None, row) ∷ plain rows
diagnosed (digest ∷ digests) (row ∷ rows) = (Some digest, row) ∷ diagnosed digests rows

abbrev pub has_diagnostics : MarkFormat → Bool
has_diagnostics One = false
has_diagnostics (Two digests) = true

-- the lines of the sources
abbrev pub source_lines : MarkFormat → List FileRow → List Line
source_lines One rows = plain rows
source_lines (Two digests) rows = diagnosed digests rows

-- there is no digest for a row that isn't there
abbrev pub HasNoMore : MarkFormat → List FileRow → Type 0
HasNoMore One rows = Unit {0}
HasNoMore (Two digests) rows = length digests ≡ length rows

pub record IsMarkRow (row : FileRow) : Type 0 where
  pub path : IsTrue (is_path row.path)
  pub utf8 : IsUtf8 row.path
  pub length : row.length < limit
  pub digest : IsDigest row.digest

-- the digest stands in front exactly in a mark that has diagnostics
abbrev pub LeadFits : Bool → Option (List ℕ) → Type 0
LeadFits false None = Unit {0}
LeadFits false (Some digest) = ⊥
LeadFits true None = ⊥
LeadFits true (Some digest) = IsDigest digest

-- a line may follow lines of which each path stands before its own, as byte strings
pub record LineFits (leads : Bool) (before : List Line) (line : Line) : Type 0 where
  pub lead : LeadFits leads line.0
  pub row : IsMarkRow line.1
  pub order : AllByRecursion (λ earlier. text_cmp earlier.1.path line.1.path ≡ Less) before

-- a need may follow needs of other apps
pub record NeedFits (before : List Need) (need : Need) : Type 0 where
  pub digest : IsDigest need.0
  pub app : IsAppName need.1
  pub differs : AllByRecursion (λ earlier. earlier.1 ≡ need.1 → ⊥) before

-- what always holds of a mark
pub record IsMark (mark : MarkView) : Type 0 where
  pub options : length mark.options < limit
  pub sources : length mark.sources < limit
  pub lines : FitInTurn (LineFits (has_diagnostics mark.format)) [] (source_lines mark.format mark.sources)
  pub no_more : HasNoMore mark.format mark.sources
  pub needs : length mark.needs < limit
  pub apart : FitInTurn NeedFits [] mark.needs
  pub outputs : length mark.outputs < limit
  pub rows : FitInTurn (LineFits false) [] (plain mark.outputs)
  pub text : length mark.text < limit
