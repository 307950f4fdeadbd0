-- The lines of rows that are read.
use Rattle.std.specs.Prelude.{◌≡◌, Bool, true, false, ℕ, List, [], ◌∷◌, length, Option, Some, None}
use Rattle.mx_base.specs.declared.row.FileRow.{FileRow}
use Rattle.build_manifest.specs.Fields.{lead_text}
use Rattle.build_manifest.specs.Mark.{Line, diagnosed, plain}

-- the digest in front, where there is one
abbrev pub digest_of : Option (List ℕ) → List (List ℕ)
digest_of None = []
digest_of (Some digest) = digest ∷ []

-- .. and its text
abbrev pub lead_part : Option (List ℕ) → List ℕ
lead_part None = []
lead_part (Some digest) = lead_text digest

-- there is a digest for each row, or for none
abbrev pub HasLeads : Bool → List (List ℕ) → List FileRow → Type 0
HasLeads false digests rows = digests ≡ []
HasLeads true digests rows = length digests ≡ length rows

abbrev pub lines_of : Bool → List (List ℕ) → List FileRow → List Line
lines_of false digests rows = plain rows
lines_of true digests rows = diagnosed digests rows

-- these make lines that fit
abbrev pub AreLines : (List Line → Type 0) → Bool → List (List ℕ) → List FileRow → Type 0
AreLines Fits leads digests rows = HasLeads leads digests rows × Fits (lines_of leads digests rows)
